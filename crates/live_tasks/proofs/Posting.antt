-- What a copier has sent on its lanes after each step.
use Rattle.std.proofs.Common.{◌≡◌, ℕ, ◌<◌, ◌≤◌, ◌+◌, inl, inr, List, [], ◌∷◌, ◌++◌, length, get_or, set, map, refl, sym}
use Rattle.std.proofs.Common.{ap, subst, ◌∙◌, arith}
use Rattle.std.specs.List.{Any, Contains, sum_by}
use Rattle.std.proofs.lemmas.Bool.{cases_eq}
use Rattle.std.proofs.lemmas.List.{length-map, length-append, length-set, map-set, get_or-map, get_or_default}
use Rattle.std.proofs.lemmas.List.{set-get_or, get_or-set_same, get_or-set_other}
use Rattle.std.proofs.lemmas.List.Elements.{Contains-append_left, Contains-push, Contains-push_cases}
use Rattle.std.proofs.lemmas.List.Quantifiers.{any-set}
use Rattle.std.proofs.lemmas.List.Sums.{sum_by-cons, sum_by-set}
use Rattle.migration_model.specs.Trace.{GuestTrace}
use Rattle.stream_lanes.specs.Ends.{LaneId, OutView, IsSentOn}
use Rattle.live_tasks.specs.RoundLogs.{RoundLogView, empty_log, with_deferred, with_sent, with_skipped, IsCrowded}
use Rattle.live_tasks.specs.RoundLogs.{IsPosted, SpellsPage, frames_sent}
use Rattle.live_tasks.specs.Copies.{HasSentFrame, IsFullAt, KeepsSent}
use Rattle.live_tasks.proofs.Basics.{in_none}

-- ---- lists whose elements have something in common

any_mapped : {X Y : Type 0} (P : Y → Type 0) (f : X → Y) (xs ys : List X) → map f ys ≡ map f xs → Any (λ x. P (f x)) xs
    → Any (λ x. P (f x)) ys
any_mapped {X} P f xs ys same any =
    let i : ℕ = any.0 in
    let x : X = any.1 in
    let long : length ys ≡ length xs = sym (length-map ys f) ∙ ap length same ∙ length-map xs f in
    let low : i < length ys = omega (arith, any.2, long) in
    let at : f x ≡ f (get_or ys i x) = sym (ap f any.3) ∙ sym (get_or-map f xs i x (f x) any.2)
    ∙ ap (λ l. get_or l i (f x)) (sym same) ∙ get_or-map f ys i x (f x) low in
    (i, get_or ys i x, low, get_or_default ys i (get_or ys i x) x low, subst P at any.4)

sum_by_parts : {X Y : Type 0} (g : Y → ℕ) (f : X → Y) (xs : List X) → sum_by (λ x. g (f x)) xs ≡ sum_by g (map f xs)
sum_by_parts g f [] = refl
sum_by_parts g f (x ∷ xs) = sum_by-cons (λ y. g (f y)) x xs ∙ ap (λ n. g (f x) + n) (sum_by_parts g f xs)
    ∙ sym (sum_by-cons g (f x) (map f xs))

sum_by_mapped : {X Y : Type 0} (g : Y → ℕ) (f : X → Y) (xs ys : List X) → map f ys ≡ map f xs
    → sum_by (λ x. g (f x)) ys ≡ sum_by (λ x. g (f x)) xs
sum_by_mapped g f xs ys same = sum_by_parts g f ys ∙ ap (sum_by g) same ∙ sym (sum_by_parts g f xs)

-- one element in place of another with the same property
any_grown : {X : Type 0} (P : X → Type 0) (xs : List X) (i : ℕ) (x y : X) → i < length xs → get_or xs i x ≡ x
    → (P x → P y) → Any P xs → Any P (set xs i y)
any_grown {X} P xs i x y low at more any = elim (cases_eq any.0 i) [
  | inl e ↦
      let same : any.1 ≡ x = sym any.3 ∙ ap (λ n. get_or xs n any.1) e ∙ get_or_default xs i any.1 x low ∙ at in
      any-set P xs i y low (more (subst P same any.4))
  | inr apart ↦ (
    any.0,
    any.1,
    omega (arith, any.2, length-set xs i y),
    get_or-set_other xs i any.0 y any.1 apart ∙ any.3,
    any.4,
  )
]

map_kept : {X Y : Type 0} (f : X → Y) (xs : List X) (i : ℕ) (x y : X) → i < length xs → get_or xs i x ≡ x → f y ≡ f x
    → map f (set xs i y) ≡ map f xs
map_kept f xs i x y low at same =
    map-set f xs i y ∙ ap (set (map f xs) i) (same ∙ sym (ap f at) ∙ sym (get_or-map f xs i x (f x) low))
    ∙ set-get_or (map f xs) i (f x)

-- ---- one lane

abbrev lane_is : OutView → LaneId
lane_is out = out.lane

abbrev sent_is : OutView → List (List ℕ)
sent_is out = out.sent

-- a lane was looked at
pub keeps_looked : (outs : List OutView) (i : ℕ) (x y : OutView) → i < length outs → get_or outs i x ≡ x
    → y.lane ≡ x.lane → y.sent ≡ x.sent → KeepsSent outs (set outs i y)
keeps_looked outs i x y low at lane sent = record {
  lanes = map_kept lane_is outs i x y low at lane;
  same = map_kept sent_is outs i x y low at sent;
  crowded = any_grown (λ (out : OutView). out.lane.capacity ≤ length out.sent) outs i x y low at
      (λ full. omega (arith, full, ap (λ (l : LaneId). l.capacity) lane, ap length sent));
}

-- a full lane was looked at
pub full_looked : (outs : List OutView) (i : ℕ) (x y : OutView) → i < length outs → y.lane ≡ x.lane → y.sent ≡ x.sent
    → x.lane.capacity ≤ length x.sent
    → IsFullAt (set outs i y) i
full_looked outs i x y low lane sent full = record {
  there = omega (arith, low, length-set outs i y);
  full = λ out at.
      let same : y ≡ out = sym (get_or-set_same outs i y out low) ∙ at in
      subst (λ (o : OutView). o.lane.capacity ≤ length o.sent) same
      (omega (arith, full, ap (λ (l : LaneId). l.capacity) lane, ap length sent));
}

-- a frame was sent on a lane
pub sends_one : (outs : List OutView) (i : ℕ) (x y : OutView) (text : List ℕ) → i < length outs → get_or outs i x ≡ x
    → y.lane ≡ x.lane
    → y.sent ≡ x.sent ++ text ∷ [] → HasSentFrame text outs (set outs i y)
sends_one outs i x y text low at lane sent =
    let more : length y.sent ≡ length x.sent + 1 = ap length sent ∙ length-append x.sent (text ∷ []) in
    let there : (other : List ℕ) → Contains (x.sent ++ text ∷ []) other
    → Contains y.sent other = λ other. subst (λ (l : List (List ℕ)). Contains l other) (sym sent) in
    record {
      lanes = map_kept lane_is outs i x y low at lane;
      is = λ other. (
        λ is. elim (cases_eq is.0 i) [
          | inl e ↦
              let same : is.1 ≡ y = sym is.3 ∙ ap (λ n. get_or (set outs i y) n is.1) e
              ∙ get_or-set_same outs i y is.1 low in
              elim (Contains-push_cases x.sent text other (subst (λ (l : List (List ℕ)). Contains l other)
              (ap sent_is same ∙ sent) is.4)) [
                | inl old ↦ inl (i, x, low, at, old)
                | inr new ↦ inr new
              ]
          | inr apart ↦ inl (
            is.0,
            is.1,
            omega (arith, is.2, length-set outs i y),
            sym (get_or-set_other outs i is.0 y is.1 apart) ∙ is.3,
            is.4,
          )
        ],
        λ either. elim either [
          | inl before ↦ any_grown (λ (out : OutView). Contains out.sent other) outs i x y low at
              (λ old. there other (Contains-append_left x.sent (text ∷ []) other old)) before
          | inr e ↦ any-set (λ (out : OutView). Contains out.sent other) outs i y low
              (there other (subst (λ (t : List ℕ). Contains (x.sent ++ text ∷ []) t) e (Contains-push x.sent text)))
        ],
      );
      count =
          let sum : sum_by (λ (out : OutView). length out.sent) (set outs i y) + length (get_or outs i x).sent
          ≡ frames_sent outs + length y.sent =
          sum_by-set (λ (out : OutView). length out.sent) outs i y x low in
          omega (arith, sum, more, ap (λ (out : OutView). length out.sent) at);
      crowded = any_grown (λ (out : OutView). out.lane.capacity ≤ length out.sent) outs i x y low at
          (λ full. omega (arith, full, ap (λ (l : LaneId). l.capacity) lane, more));
    }

-- the same number of lanes
pub same_count : (outs after : List OutView) → map (λ (out : OutView). out.lane) after
    ≡ map (λ (out : OutView). out.lane) outs → length after ≡ length outs
same_count outs after same = sym (length-map after lane_is) ∙ ap length same ∙ length-map outs lane_is

sent_kept : (outs after : List OutView) (text : List ℕ) → map sent_is after ≡ map sent_is outs → IsSentOn outs text
    → IsSentOn after text
sent_kept outs after text same is = any_mapped (λ (sent : List (List ℕ)). Contains sent text) sent_is outs after same is

count_kept : (outs after : List OutView) → map sent_is after ≡ map sent_is outs → frames_sent after ≡ frames_sent outs
count_kept outs after same = sum_by_mapped {Y = List (List ℕ)} length sent_is outs after same

-- a look, and then a frame
pub sends_after : (text : List ℕ) (outs looked after : List OutView) → KeepsSent outs looked
    → HasSentFrame text looked after → HasSentFrame text outs after
sends_after text outs looked after keeps sends = record {
  lanes = sends.lanes ∙ keeps.lanes;
  is = λ other. (
    λ is. elim ((sends.is other).0 is) [
      | inl old ↦ inl (sent_kept looked outs other (sym keeps.same) old)
      | inr new ↦ inr new
    ],
    λ either. elim either [
      | inl old ↦ (sends.is other).1 (inl (sent_kept outs looked other keeps.same old))
      | inr new ↦ (sends.is other).1 (inr new)
    ],
  );
  count = omega (arith, sends.count, count_kept outs looked keeps.same);
  crowded = λ full. sends.crowded (keeps.crowded full);
}

-- ---- all of a round

pub posting_begins : (trace : GuestTrace) (outs : List OutView) → IsPosted trace outs empty_log outs
posting_begins trace outs = record {
  lanes = refl;
  kept = λ text is. is;
  new = λ text is. inl is;
  all = λ page place there. absurd (in_none (page, place) there);
  count = omega arith;
  crowded = λ page there. absurd (in_none page there);
}

pub posts_sent : (trace : GuestTrace) (page place : ℕ) (text : List ℕ) (first outs after : List OutView)
    (o : RoundLogView) → SpellsPage trace page place text
    → HasSentFrame text outs after → IsPosted trace first o outs → IsPosted trace first (with_sent page place o) after
posts_sent trace page place text first outs after o spells sends is = record {
  lanes = sends.lanes ∙ is.lanes;
  kept = λ other before. (sends.is other).1 (inl (is.kept other before));
  new = λ other there. elim ((sends.is other).0 there) [
    | inl old ↦ elim (is.new other old) [
      | inl before ↦ inl before
      | inr found ↦ inr (
        found.0,
        found.1,
        Contains-append_left o.sent ((page, place) ∷ []) (found.0, found.1) found.2,
        found.3,
      )
    ]
    | inr e ↦ inr (
      page,
      place,
      Contains-push o.sent (page, place),
      subst (λ (t : List ℕ). SpellsPage trace page place t) e spells,
    )
  ];
  all = λ q at listed. elim (Contains-push_cases o.sent (page, place) (q, at) listed) [
    | inl before ↦ let found = is.all q at before in (found.0, (sends.is found.0).1 (inl found.1), found.2)
    | inr same ↦ (text, (sends.is text).1 (inr refl), subst (λ (x : ℕ × ℕ). SpellsPage trace x.0 x.1 text) same spells)
  ];
  count = omega (arith, sends.count, is.count, length-append o.sent ((page, place) ∷ []));
  crowded = λ q listed. sends.crowded (is.crowded q listed);
}

pub posts_skipped : (trace : GuestTrace) (page : ℕ) (first outs : List OutView) (o : RoundLogView)
    → IsPosted trace first o outs → IsPosted trace first (with_skipped page o) outs
posts_skipped trace page first outs o is = record {
  lanes = is.lanes;
  kept = is.kept;
  new = is.new;
  all = is.all;
  count = is.count;
  crowded = is.crowded;
}

pub posts_deferred : (trace : GuestTrace) (page : ℕ) (first outs after : List OutView) (o : RoundLogView)
    → map (λ (out : OutView). out.lane) after ≡ map (λ (out : OutView). out.lane) outs
    → map (λ (out : OutView). out.sent) after ≡ map (λ (out : OutView). out.sent) outs → IsCrowded after
    → IsPosted trace first o outs → IsPosted trace first (with_deferred page o) after
posts_deferred trace page first outs after o lanes same full is = record {
  lanes = lanes ∙ is.lanes;
  kept = λ text before. sent_kept outs after text same (is.kept text before);
  new = λ text there. is.new text (sent_kept after outs text (sym same) there);
  all = λ q at listed. let found = is.all q at listed in (found.0, sent_kept outs after found.0 same found.1, found.2);
  count = count_kept outs after same ∙ is.count;
  crowded = λ q listed. full;
}
