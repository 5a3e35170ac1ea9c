-- Pages that are marked, held or pending exist.
use Rattle.std.proofs.Common.{◌≡◌, ℕ, ◌<◌, List, [], ◌∷◌, Option, Some, None, refl, sym, ap, subst, ◌∙◌, inl, inr}
use Rattle.std.specs.Prelude.{IsTrue, ◌⊎◌}
use Rattle.std.specs.List.{fold}
use Rattle.std.proofs.lemmas.Bool.{cases_eq, eqb-true, and_parts, or_cases}
use Rattle.dirty_core.specs.declared.event.Event.{Event}
use Rattle.dirty_core.specs.declared.event.Event.TheVariants.{Store, Mark, Harvest, Peek, Restore, Read}
use Rattle.dirty_core.specs.declared.refusal.CoreRefusal.TheVariants.{NotOwner, NothingPending, NotHeld}
use Rattle.page_bitmap.specs.Pages.{PageSet, in_words, one_page, word_pages, bit_pages, union, common, minus}
use Rattle.dirty_core.specs.Start.{Start, IsStart, GuestOwns, sizes_of}
use Rattle.dirty_core.specs.Machine.{DirtyCore, put, with_pending, Needs, after}
use Rattle.dirty_core.specs.Runs.{opened, core_after, IsLegalFrom, IsLegal, IsReal}
use Rattle.dirty_core.proofs.EveryPage.{put_at, put_else, set_at, set_else, same_page, no_page_is, minus_part}
use Rattle.dirty_core.proofs.EveryPage.{some_page, either}

-- a page of a seat's new set, or of the old ones
of_sets : (f : ℕ → PageSet) (i : ℕ) (v : PageSet) (n page : ℕ) → IsTrue (put f i v n page)
    → IsTrue (v page) ⊎ IsTrue (f n page)
of_sets f i v n page is = elim (cases_eq n i) [
  | inl e ↦ inl (sym (set_at f i v n page e) ∙ is)
  | inr ne ↦ inr (sym (set_else f i v n page ne) ∙ is)
]

Real-marked : (core : DirtyCore) (guest page q : ℕ) (o : Option ℕ) → core.pending guest ≡ o → o ≡ Some page
    → IsReal core q
    → IsReal (record core { marked = with_pending core.marked o; pending = put core.pending guest None }) q
Real-marked core guest page q None is some known = absurd (no_page_is None page refl some)
Real-marked core guest page q (Some p) is some known = record {
  marked = λ marked. either known.marked (λ now. known.pending guest (is ∙ ap Some (sym (eqb-true q p now))))
      (or_cases _ _ marked);
  held = known.held;
  pending = λ g pending. elim (cases_eq g guest) [
    | inl e ↦ absurd (no_page_is _ q (put_at core.pending guest None g e) pending)
    | inr far ↦ known.pending g (sym (put_else core.pending guest None g far) ∙ pending)
  ];
}

Real-after : (core : DirtyCore) (event : Event) (q : ℕ) → Needs core event → IsReal core q → IsReal (after core event) q
Real-after core (Store guest page place) q needs known =
    let owns : GuestOwns core.sizes guest page = needs NotOwner in
    record {
      marked = known.marked;
      held = known.held;
      pending = λ g pending. elim (cases_eq g guest) [
        | inl e ↦
            let same : page ≡ q = same_page page q (sym (put_at core.pending guest (Some page) g e) ∙ pending) in
            subst (λ n. n < core.sizes.pages) same owns.page_real
        | inr far ↦ known.pending g (sym (put_else core.pending guest (Some page) g far) ∙ pending)
      ];
    }
Real-after core (Mark guest) q needs known =
    let some = some_page (core.pending guest) (needs NothingPending) in
    Real-marked core guest some.0 q (core.pending guest) refl some.1 known
Real-after core (Harvest copier word) q needs known = record {
  marked = λ marked. known.marked (minus_part _ _ marked).0;
  held = λ c held. either
      (λ new. either (known.held copier) (λ both. known.marked (and_parts _ _ both).1) (or_cases _ _ new))
      (known.held c)
      (of_sets core.held copier (union (core.held copier) (common (word_pages word) core.marked)) c q held);
  pending = known.pending;
}
Real-after core (Peek copier word) q needs known = known
Real-after core (Restore copier word bits) q needs known = record {
  marked = λ marked. either known.marked (λ told. known.held copier (needs NotHeld q told)) (or_cases _ _ marked);
  held = λ c held. either
      (λ new. known.held copier (minus_part _ _ new).0)
      (known.held c)
      (of_sets core.held copier (minus (core.held copier) (bit_pages word bits)) c q held);
  pending = known.pending;
}
Real-after core (Read copier page) q needs known = record {
  marked = known.marked;
  held = λ c held. either
      (λ new. known.held copier (minus_part _ _ new).0)
      (known.held c)
      (of_sets core.held copier (minus (core.held copier) (one_page page)) c q held);
  pending = known.pending;
}

Real-run : (core : DirtyCore) (events : List Event) (q : ℕ) → IsLegalFrom core events → IsReal core q
    → IsReal (fold after core events) q
Real-run core [] q legal known = known
Real-run core (event ∷ events) q legal known = Real-run (after core event) events q legal.1
    (Real-after core event q legal.0 known)

pub IsReal-run : (start : Start) (events : List Event) → IsStart start → IsLegal start events → (page : ℕ)
    → IsReal (core_after start events) page
IsReal-run start events is legal page =
    Real-run (opened start) events page legal (record {
      marked = is.real page;
      held = λ copier held. absurd cc;
      pending = λ guest pending. absurd cc;
    })

-- ---- no event changes how many pages, guests and copiers there are

pub sizes-after : (core : DirtyCore) (event : Event) → (after core event).sizes ≡ core.sizes
sizes-after core (Store guest page place) = refl
sizes-after core (Mark guest) = refl
sizes-after core (Harvest copier word) = refl
sizes-after core (Peek copier word) = refl
sizes-after core (Restore copier word bits) = refl
sizes-after core (Read copier page) = refl

sizes-run : (core : DirtyCore) (events : List Event) → (fold after core events).sizes ≡ core.sizes
sizes-run core [] = refl
sizes-run core (event ∷ events) = sizes-run (after core event) events ∙ sizes-after core event

pub sizes-core_after : (start : Start) (events : List Event) → (core_after start events).sizes ≡ sizes_of start
sizes-core_after start events = sizes-run (opened start) events

-- ---- nor which pages were marked at opening

at_opening-after : (core : DirtyCore) (event : Event) → (after core event).at_opening ≡ core.at_opening
at_opening-after core (Store guest page place) = refl
at_opening-after core (Mark guest) = refl
at_opening-after core (Harvest copier word) = refl
at_opening-after core (Peek copier word) = refl
at_opening-after core (Restore copier word bits) = refl
at_opening-after core (Read copier page) = refl

at_opening-run : (core : DirtyCore) (events : List Event) → (fold after core events).at_opening ≡ core.at_opening
at_opening-run core [] = refl
at_opening-run core (event ∷ events) = at_opening-run (after core event) events ∙ at_opening-after core event

pub at_opening-core_after : (start : Start) (events : List Event)
    → (core_after start events).at_opening ≡ in_words start.dirty
at_opening-core_after start events = at_opening-run (opened start) events
