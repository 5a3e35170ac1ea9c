-- Pages that come without a stamp, and the first version of each that fits.
use Rattle.std.proofs.Common.{◌≡◌, ◌≢◌, ◌⊎◌, ℕ, zero, suc, ◌+◌, ◌-◌, ◌<◌, ◌≤◌, List, [], ◌∷◌, get_or, set, Option, Some}
use Rattle.std.proofs.Common.{inl, inr, sym, ap, subst, ◌∙◌, arith}
use Rattle.std.specs.Prelude.{IfSome}
use Rattle.std.proofs.lemmas.Bool.{cases_lt}
use Rattle.std.proofs.lemmas.List.{map-set}
use Rattle.migration_model.specs.Frames.{PageFrame}
use Rattle.migration_model.specs.Trace.{GuestTrace}
use Rattle.migration_model.specs.Versions.{page_at}
use Rattle.page_versions.specs.Index.{version_after}
use Rattle.open_traces.specs.Index.{next_after}
use Rattle.open_traces.proofs.PageWalks.{IsNext-from, version_own, version_still, version_within}
use Rattle.stream_check.specs.Faults.{AreRight}
use Rattle.open_checks.specs.Kept.{stamp_in, stamps_in}
use Rattle.open_checks.specs.Unstamped.{AreFirstFitting, IsFirstFitting, IsFittingVersion}
use Rattle.open_checks.proofs.Words.{stamp_at, stamp_own}

-- the page at a version, before which none fits
pub record IsSought (trace : GuestTrace) (stop page from : ℕ) (bytes content : List ℕ) (version : ℕ) : Type 0 where
  pub own : version ≡ version_after trace page version
  pub late : from ≤ version
  pub content_is : content ≡ page_at trace page version
  pub least : (other : ℕ) → IsFittingVersion trace stop page from bytes other → version ≤ other

pub IsSought-first : (trace : GuestTrace) (stop page from : ℕ) (bytes content : List ℕ)
    → from ≡ version_after trace page from → content ≡ page_at trace page from
    → IsSought trace stop page from bytes content from
IsSought-first trace stop page from bytes content own is =
    record { own = own; late = omega arith; content_is = is; least = λ other fits. fits.late }

pub IsSought-fits : (trace : GuestTrace) (stop page from : ℕ) (bytes content : List ℕ) (version : ℕ)
    → IsSought trace stop page from bytes content version → version ≤ stop → bytes ≡ content
    → IsFirstFitting trace stop page from bytes version
IsSought-fits trace stop page from bytes content version at early same = record {
  fits = record {
    is_version = at.own;
    late = at.late;
    in_time = early;
    bytes = sym at.content_is ∙ sym same;
  };
  least = at.least;
}

-- a version that fits does not come before the next write
none_between : (trace : GuestTrace) (stop page from : ℕ) (bytes content : List ℕ) (version next other : ℕ)
    → IsSought trace stop page from bytes content version → bytes ≢ content → next ≡ next_after trace page version
    → (next ≡ 0) ⊎ (other < next) → IsFittingVersion trace stop page from bytes other → ⊥
none_between trace stop page from bytes content version next other at apart is end fits =
    let same : version ≡ other =
    version_still trace page version other next at.own (at.least other fits) is end ∙ sym fits.is_version in
    apart (sym fits.bytes ∙ ap (page_at trace page) (sym same) ∙ sym at.content_is)

pub IsSought-next : (trace : GuestTrace) (stop page from : ℕ) (bytes content new : List ℕ) (version next : ℕ)
    → IsSought trace stop page from bytes content version → bytes ≢ content → next ≡ next_after trace page version
    → next ≢ 0 → new ≡ page_at trace page next → IsSought trace stop page from bytes new next
IsSought-next trace stop page from bytes content new version next at apart is some made =
    let after = IsNext-from trace page version next is some (version_within trace page version at.own) in
    record {
      own = version_own trace page next (omega (arith, some)) after.within after.own;
      late = omega (arith, at.late, after.later);
      content_is = made;
      least = λ other fits. elim (cases_lt other next) [
        | inl below ↦
            absurd (none_between trace stop page from bytes content version next other at apart is (inr below) fits)
        | inr above ↦ above
      ];
    }

pub none_left : (trace : GuestTrace) (stop page from : ℕ) (bytes content : List ℕ) (version next : ℕ)
    → IsSought trace stop page from bytes content version → bytes ≢ content → next ≡ next_after trace page version
    → next ≡ 0 → (other : ℕ) → ¬ IsFittingVersion trace stop page from bytes other
none_left trace stop page from bytes content version next at apart is none other fits =
    none_between trace stop page from bytes content version next other at apart is (inl none) fits

pub none_in_time : (trace : GuestTrace) (stop page from : ℕ) (bytes content : List ℕ) (version : ℕ)
    → IsSought trace stop page from bytes content version → stop < version
    → (other : ℕ) → ¬ IsFittingVersion trace stop page from bytes other
none_in_time trace stop page from bytes content version at late other fits =
    omega (arith, at.least other fits, fits.in_time, late)

-- ---- laws

pub one_first : (trace : GuestTrace) (stop page from : ℕ) (content : List ℕ) (a b : ℕ)
    → IsFirstFitting trace stop page from content a → IsFirstFitting trace stop page from content b → a ≡ b
one_first trace stop page from content a b one two = omega (arith, one.least b two.fits, two.least a one.fits)

pub first_not_none : (trace : GuestTrace) (stop page from : ℕ) (content : List ℕ) (a : ℕ)
    → IsFirstFitting trace stop page from content a
    → ¬ ((version : ℕ) → ¬ IsFittingVersion trace stop page from content version)
first_not_none trace stop page from content a one none = none a one.fits

-- what fits after another version fits after the first
pub fits_after_first : (trace : GuestTrace) (stop page from : ℕ) (content more : List ℕ) (first other version : ℕ)
    → IsFirstFitting trace stop page from content first → IsFittingVersion trace stop page from content other
    → IsFittingVersion trace stop page other more version → IsFittingVersion trace stop page first more version
fits_after_first trace stop page from content more first other version is fits later = record {
  is_version = later.is_version;
  late = omega (arith, later.late, is.least other fits);
  in_time = later.in_time;
  bytes = later.bytes;
}

in_order : (word stamp : ℕ) → word - 1 ≤ stamp → IfSome (stamp_in word) (λ came. came ≤ stamp)
in_order zero stamp low = tt
in_order (suc came) stamp low =
    let own : suc came ≡ came + 1 = omega arith in
    let left : came ≤ stamp = omega (arith, low) in
    subst (λ (o : Option ℕ). IfSome o (λ last. last ≤ stamp)) (sym (ap stamp_in own ∙ stamp_own came)) left

pub fitting_right : (trace : GuestTrace) (stop : ℕ) (greatest : List ℕ) (frames : List PageFrame)
    → AreFirstFitting trace stop greatest frames → AreRight trace stop (stamps_in greatest) frames
fitting_right trace stop greatest [] fit = tt
fitting_right trace stop greatest (frame ∷ frames) fit =
    let page : ℕ = frame.page in
    let stamp : ℕ = frame.stamp in
    let fits = fit.0.fits in
    let more : stamps_in (set greatest page (stamp + 1)) ≡ set (stamps_in greatest) page (Some stamp) =
    map-set stamp_in greatest page (stamp + 1) ∙ ap (set (stamps_in greatest) page) (stamp_own stamp) in (
      record {
        right = record {
          version = fits.is_version;
          in_time = fits.in_time;
          in_order = subst (λ (o : Option ℕ). IfSome o (λ came. came ≤ stamp)) (sym (stamp_at greatest page))
              (in_order (get_or greatest page 0) stamp fits.late);
        };
        bytes = sym fits.bytes;
      },
      subst (λ (l : List (Option ℕ)). AreRight trace stop l frames) more
          (fitting_right trace stop (set greatest page (stamp + 1)) frames fit.1),
    )
