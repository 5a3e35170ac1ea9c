-- The columns of windows as they come.
use Rattle.std.proofs.Common.{◌≡◌, ℕ, ◌+◌, ◌<◌, ◌≤◌, List, ◌∷◌, ◌++◌, length, get_or, drop, map, ap, sym, ◌∙◌}
use Rattle.std.proofs.Common.{append_assoc}
use Rattle.std.specs.Prelude.{Bool, true, false, nat_lt, if◌then◌else◌}
use Rattle.std.proofs.lemmas.Bool.{le-ltb, lt-ltb}
use Rattle.std.proofs.lemmas.List.{append-nil, drop_all, drop_more}
use Rattle.migration_model.specs.Windows.{WindowRow}
use Rattle.report_pictures.specs.WindowBars.{column_marks, columns_from, columns_marks, joined}
use Rattle.report_pictures.specs.declared.panel.Panel.{Panel}
use Rattle.report_pictures.specs.declared.window_panel.Column.{Column}

-- the marks that are due once `n` windows have come
abbrev pub marks_after : Panel → (WindowRow → Column) → Column → ℕ → List WindowRow → List ℕ
marks_after panel place last n rows = columns_marks panel (columns_from last (map place (drop n rows)))

one_more : (place : WindowRow → Column) (n : ℕ) (rows : List WindowRow) (row : WindowRow) → n < length rows
    → row ≡ get_or rows n row → map place (drop n rows) ≡ place row ∷ map place (drop (n + 1) rows)
one_more place n rows row low is =
    ap (map place) (drop_more rows n row low) ∙ ap (λ (r : WindowRow). place r ∷ map place (drop (n + 1) rows)) (sym is)

-- the next window joins the last column
pub window_joined : (panel : Panel) (place : WindowRow → Column) (last next : Column) (n : ℕ) (rows : List WindowRow)
    (row : WindowRow) → n < length rows → row ≡ get_or rows n row → next ≡ place row
    → nat_lt next.from last.to ≡ true
    → marks_after panel place last n rows ≡ marks_after panel place (joined last next) (n + 1) rows
window_joined panel place last next n rows row low is at overlaps =
    let rest = map place (drop (n + 1) rows) in
    ap (λ (cs : List Column). columns_marks panel (columns_from last cs)) (one_more place n rows row low is
    ∙ ap (λ (c : Column). c ∷ rest) (sym at))
    ∙ ap (λ (b : Bool). columns_marks panel (if b then columns_from (joined last next) rest
    else last ∷ columns_from next rest)) overlaps

-- or it begins another
pub window_apart : (panel : Panel) (place : WindowRow → Column) (last next : Column) (n : ℕ) (rows : List WindowRow)
    (row : WindowRow) → n < length rows → row ≡ get_or rows n row → next ≡ place row
    → nat_lt next.from last.to ≡ false
    → marks_after panel place last n rows ≡ column_marks panel last ++ marks_after panel place next (n + 1) rows
window_apart panel place last next n rows row low is at follows =
    let rest = map place (drop (n + 1) rows) in
    ap (λ (cs : List Column). columns_marks panel (columns_from last cs)) (one_more place n rows row low is
    ∙ ap (λ (c : Column). c ∷ rest) (sym at))
    ∙ ap (λ (b : Bool). columns_marks panel (if b then columns_from (joined last next) rest
    else last ∷ columns_from next rest)) follows

-- the last column stands alone
pub last_alone : (panel : Panel) (place : WindowRow → Column) (last : Column) (n : ℕ) (rows : List WindowRow)
    → length rows ≤ n → marks_after panel place last n rows ≡ column_marks panel last
last_alone panel place last n rows high =
    ap (λ (rs : List WindowRow). columns_marks panel (columns_from last (map place rs))) (drop_all n rows high)
    ∙ append-nil (column_marks panel last)

-- what is due stays the same when a window joins the last column
pub joined_on : (panel : Panel) (place : WindowRow → Column) (last next : Column) (n : ℕ) (rows : List WindowRow)
    (row : WindowRow) → n < length rows → row ≡ get_or rows n row → next ≡ place row → next.from < last.to
    → (made : Column) (so_far new all : List ℕ) → made ≡ joined last next → new ≡ so_far
    → so_far ++ marks_after panel place last n rows ≡ all → new ++ marks_after panel place made (n + 1) rows ≡ all
joined_on panel place last next n rows row low is at overlaps made so_far new all made_is new_is before =
    (λ i. new_is i ++ marks_after panel place (made_is i) (n + 1) rows)
    ∙ ap (λ (l : List ℕ). so_far ++ l)
    (sym (window_joined panel place last next n rows row low is at (lt-ltb next.from last.to overlaps)))
    ∙ before

-- and when it begins another, and the last column is drawn
pub apart_on : (panel : Panel) (place : WindowRow → Column) (last next : Column) (n : ℕ) (rows : List WindowRow)
    (row : WindowRow) → n < length rows → row ≡ get_or rows n row → next ≡ place row → last.to ≤ next.from
    → (made : Column) (so_far new all : List ℕ) → made ≡ next → new ≡ so_far ++ column_marks panel last
    → so_far ++ marks_after panel place last n rows ≡ all → new ++ marks_after panel place made (n + 1) rows ≡ all
apart_on panel place last next n rows row low is at follows made so_far new all made_is new_is before =
    (λ i. new_is i ++ marks_after panel place (made_is i) (n + 1) rows)
    ∙ append_assoc so_far (column_marks panel last) (marks_after panel place next (n + 1) rows)
    ∙ ap (λ (l : List ℕ). so_far ++ l)
    (sym (window_apart panel place last next n rows row low is at (le-ltb next.from last.to follows)))
    ∙ before
