-- The values of tables and seats, as contracts see them.
use Rattle.std.specs.Prelude.{ℕ, List}
use Rattle.atomic_table.specs.Seated.{TableId}
use Rattle.dirty_core.specs.Start.{Start}
use Rattle.dirty_words.specs.Facts.{GuestFacts, CopyFacts}

-- which table it is, and what it opened with
pub record TableView : Type 0 where
  pub id : TableId
  pub start : Start

pub record GuestView : Type 0 where
  pub id : TableId
  pub facts : GuestFacts

pub record CopyView : Type 0 where
  pub id : TableId
  pub facts : CopyFacts

abbrev pub table_view : TableId → Start → TableView
table_view id start = record { id = id; start = start }

abbrev pub guest_view : TableId → GuestFacts → GuestView
guest_view id facts = record { id = id; facts = facts }

abbrev pub copy_view : TableId → CopyFacts → CopyView
copy_view id facts = record { id = id; facts = facts }

-- the table that a seat is of
abbrev pub guest_table : GuestView → TableView
guest_table guest = table_view guest.id guest.facts.start

abbrev pub copy_table : CopyView → TableView
copy_table copier = table_view copier.id copier.facts.start

-- the version of each page, and the marked pages by words
pub record ClosedView : Type 0 where
  pub versions : List ℕ
  pub dirty : List ℕ

abbrev pub closed_view : List ℕ → List ℕ → ClosedView
closed_view versions dirty = record { versions = versions; dirty = dirty }
