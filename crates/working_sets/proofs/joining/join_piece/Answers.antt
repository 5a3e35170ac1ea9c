use Rattle.std.proofs.Common.{rules, ◌≡◌, ◌<◌, ◌+◌, ◌++◌, ◌∙◌, ap, arith, drop, length, sym, take}
use Rattle.std.proofs.Math.Seq.{take-append_seam}
use Rattle.working_sets.specs.Pieces.{cut_at, row_with, rows_with}
use Rattle.working_sets.proofs.Carried.{cut_low, pages_at, windows_few}
use Rattle.working_sets.proofs.joining.join_piece.Goals as goal

pub push_rows-requires : goal.push_rows-requires
push_rows-requires g c = rw (c.requires.joined.row, c.deref.ensures.value) c.requires.piece.carries.fits

pub add_windows-requires-clause-len : goal.add_windows-requires-clause-len
add_windows-requires-clause-len g c =
    let touches = g.T.Timeline.touches c.args.timeline.now in
    let of_number = pages_at _ (cut_at touches c.args.each c.args.number) touches c.args.settings.now
    c.asked.ensures.in_range c.touch_count.ensures.fits (cut_low touches c.args.each c.args.number) in
    let of_next = pages_at _ (cut_at touches c.args.each (c.args.number + 1)) touches c.args.settings.now
    c.asked.ensures.in_range c.touch_count.ensures.fits
    (cut_low touches c.args.each (c.args.number + 1)) in
    rw (c.deref_mut.ensures.value, c.deref-2.ensures.value)
    (c.requires.joined.len ∙ of_number ∙ sym of_next ∙ sym c.requires.piece.carries.len ∙ sym c.requires.piece.says.len)

pub add_windows-requires-clause-fits : goal.add_windows-requires-clause-fits
add_windows-requires-clause-fits g c =
    let touches = g.T.Timeline.touches c.args.timeline.now in
    let pages = g.T.Timeline.pages c.args.timeline.now in
    let number = c.args.number in
    let next = cut_at touches c.args.each (number + 1) in
    let of_number = pages_at pages (cut_at touches c.args.each number) touches c.args.settings.now
    c.asked.ensures.in_range c.touch_count.ensures.fits (cut_low touches c.args.each number) in
    let of_next = pages_at pages next touches c.args.settings.now c.asked.ensures.in_range
    c.touch_count.ensures.fits (cut_low touches c.args.each (number + 1)) in
    let piece = c.requires.piece in
    rw (c.deref_mut.ensures.value, c.deref-2.ensures.value) (λ page low.
    let inside : page < length piece.marks = omega (arith, low, piece.says.len) in
    let within : page < pages = omega (arith, inside, piece.carries.len, of_next) in
    omega (
      arith,
      c.requires.joined.windows page (omega (arith, within, c.requires.joined.len, of_number)),
      (piece.carries.each page inside).windows,
      (piece.says.each page low).windows,
      windows_few pages next page touches c.args.settings.now c.asked.ensures.in_range c.touch_count.ensures.fits
          (cut_low touches c.args.each (number + 1)) within,
      cut_low touches c.args.each (number + 1),
      c.touch_count.ensures.fits.few,
    ))

pub returns : goal.returns
returns g c =
    let joined = c.requires.joined in
    let piece = c.requires.piece in
    let touches = g.T.Timeline.touches c.args.timeline.now in
    let of_number = pages_at _ (cut_at touches c.args.each c.args.number) touches c.args.settings.now
    c.asked.ensures.in_range c.touch_count.ensures.fits (cut_low touches c.args.each c.args.number) in
    let of_next = pages_at _ (cut_at touches c.args.each (c.args.number + 1)) touches c.args.settings.now
    c.asked.ensures.in_range c.touch_count.ensures.fits
    (cut_low touches c.args.each (c.args.number + 1)) in
    let sums = c.add_windows.new.sums in
    let len : length sums ≡ c.args.joined.now.marks.len = search rules in
    let all : take c.args.joined.now.marks.len (sums ++ drop (length sums) c.args.joined.now.marks.items) ≡ sums =
    ap (λ n. take n (sums ++ drop (length sums) c.args.joined.now.marks.items)) (sym len) ∙ take-append_seam sums _ in
    let each = rw (c.deref_mut.ensures.value, c.deref-2.ensures.value) at c.add_windows.ensures.each in
    let same : length sums ≡ length c.args.joined.now.marks.items =
    c.add_windows.ensures.len ∙ ap length c.deref_mut.ensures.value in
    record {
      rows = c.in_ok-joined.ensures.rows
          ∙ (λ i. rows_with (joined.rows i) (joined.row i) (c.deref.ensures.value i)) ∙ sym piece.carries.rows_are;
      row = c.in_ok-joined.ensures.row ∙ (λ i. row_with (joined.row i) (c.deref.ensures.value i) c.args.piece.at.row)
          ∙ sym piece.carries.row_is;
      len = rw all (same ∙ joined.len ∙ of_number ∙ sym of_next);
      windows = rw all (λ page low.
          let within : page < length c.args.joined.now.marks.items = omega (arith, low, same) in
          let inside : page < length piece.marks =
          omega (arith, within, joined.len, of_number, of_next, piece.carries.len) in
          let seen : page < length c.args.piece.marks.items = omega (arith, inside, piece.says.len) in
          omega (
            arith,
            each page seen,
            joined.windows page within,
            (piece.carries.each page inside).windows,
            (piece.says.each page seen).windows,
          ));
    }
