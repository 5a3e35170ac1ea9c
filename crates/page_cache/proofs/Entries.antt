-- What is kept stays right as entries come and go.
use Rattle.std.proofs.Common.{◌≡◌, ℕ, zero, suc, ◌-◌, ◌<◌, ◌≤◌, Bool, true, false, cond, List, [], ◌∷◌, length, take}
use Rattle.std.proofs.Common.{Option, None, Some, is_some, option_map, nat_eq, arith}
use Rattle.std.proofs.Common.{Contains, refl, sym, ap, ◌∙◌, subst, inl, inr}
use Rattle.std.specs.Cmp.{nat_eq_equiv}
use Rattle.std.specs.List.{All}
use Rattle.std.specs.Map.{lookup, lookup_entry, remove_entry, set_value}
use Rattle.std.specs.Option.{option_map_or}
use Rattle.std.proofs.lemmas.Bool.{eqb-true}
use Rattle.std.proofs.lemmas.Map.{lookup-set_value}
use Rattle.std.proofs.lemmas.List.{length-take, take_all}
use Rattle.std.proofs.lemmas.Option.{same_Some}
use Rattle.std.proofs.lemmas.List.Elements.{All-cons, All-contains, All-contains_itself, All-head, All-tail, All-weaker}
use Rattle.lru.specs.LruCache.{LruCache, lru_cache, promoted, put_entries}
use Rattle.lru.proofs.CallerLemmas.{Contains-lookup, Contains-promoted, Contains-put_entries, lookup-put_entries}
use Rattle.lru.proofs.Pairs.{lookup-lookup_entry, promoted_absent, promoted_put}
use Rattle.migration_model.specs.Trace.{GuestTrace}
use Rattle.migration_model.specs.Versions.{page_at}
use Rattle.page_cache.specs.Cache.{AreKept, IsKept, KeptPage, page_with}

all_of_contained : {X : Type 0} (P : X → Type 0) (xs : List X) → ((x : X) → Contains xs x → P x) → All P xs
all_of_contained P xs each = All-weaker (Contains xs) P each xs (All-contains_itself xs)

-- the entry that is found for a page is of that page
pub kept_found : (trace : GuestTrace) (entries : List (ℕ × KeptPage)) (page : ℕ) (kept : KeptPage)
    → AreKept trace entries
    → lookup (nat_eq page) entries ≡ Some kept → IsKept trace page kept
kept_found trace entries page kept are found =
    let entry = Contains-lookup (nat_eq page) entries kept found in
    subst (λ (p : ℕ). IsKept trace p kept) (sym (eqb-true page entry.0 entry.2))
    (All-contains (λ (e : ℕ × KeptPage). IsKept trace e.0 e.1) entries (entry.0, kept) are entry.1)

-- one value is changed in place
kept_set : (trace : GuestTrace) (page : ℕ) (kept : KeptPage) → IsKept trace page kept → (entries : List (ℕ × KeptPage))
    → AreKept trace entries
    → AreKept trace (set_value (nat_eq page) entries kept)
kept_set trace page kept is [] are = are
kept_set trace page kept is (e ∷ es) are =
    let P = λ (e : ℕ × KeptPage). IsKept trace e.0 e.1 in
    let rest = All-tail P e es are in (elim (nat_eq page e.0) as
    (λ b. nat_eq page e.0 ≡ b → All P (cond b ((e.0, kept) ∷ es) (e ∷ set_value (nat_eq page) es kept))) [
      | true ↦ λ same. All-cons P (e.0, kept) es (subst (λ (p : ℕ). IsKept trace p kept) (eqb-true page e.0 same) is)
          rest
      | false ↦ λ other. All-cons P e (set_value (nat_eq page) es kept) (All-head P e es are)
          (kept_set trace page kept is es rest)
    ]) refl

-- the entry of a page goes to the front, and its value is changed there
pub kept_used : (trace : GuestTrace) (entries : List (ℕ × KeptPage)) (page : ℕ) (kept : KeptPage)
    → AreKept trace entries → IsKept trace page kept
    → AreKept trace (set_value (nat_eq page) (promoted (nat_eq page) entries) kept)
kept_used trace entries page kept are is =
    kept_set trace page kept is (promoted (nat_eq page) entries)
    (all_of_contained (λ (e : ℕ × KeptPage). IsKept trace e.0 e.1) (promoted (nat_eq page) entries)
    (λ e inside. All-contains (λ (e : ℕ × KeptPage). IsKept trace e.0 e.1) entries e are
    (Contains-promoted (nat_eq page) entries e inside)))

-- the entry of a page that is brought to a version goes to the front
pub kept_brought : (trace : GuestTrace) (entries : List (ℕ × KeptPage)) (page version : ℕ) (was kept : KeptPage)
    → AreKept trace entries
    → lookup (nat_eq page) entries ≡ Some was → version ≤ length trace.writes
    → kept ≡ page_with version (page_at trace page version)
    → AreKept trace (set_value (nat_eq page) (promoted (nat_eq page) entries) kept)
kept_brought trace entries page version was kept are found within made =
    let low = (kept_found trace entries page was are found).0 in
    let is : IsKept trace page (page_with version (page_at trace page version)) = (low, within, refl) in
    kept_used trace entries page kept are (subst (IsKept trace page) (sym made) is)

-- a look-up finds the changed value
pub used_found : (cache : LruCache ℕ KeptPage) (page : ℕ) (was kept : KeptPage)
    → lookup (nat_eq page) cache.entries ≡ Some was
    → lookup (nat_eq page) (set_value (nat_eq page) (promoted (nat_eq page) cache.entries) kept) ≡ Some kept
used_found cache page was kept found =
    let put = promoted_put nat_eq cache page (ap is_some found) in
    let first : lookup (nat_eq page) (promoted (nat_eq page) cache.entries) ≡ Some put.0 =
    rw put.2 (lookup-put_entries nat_eq cache page put.0 nat_eq_equiv) in
    lookup-set_value nat_eq_equiv (nat_eq page) (λ x y same. ap (λ p. nat_eq p y) (eqb-true page x same)) page kept
    (promoted (nat_eq page) cache.entries)
    (ap is_some first) ∙ ap (λ b. cond b (Some kept) (lookup (nat_eq page) (promoted (nat_eq page) cache.entries)))
    (nat_eq_equiv.refl page)

pub kept_put : (trace : GuestTrace) (cache : LruCache ℕ KeptPage) (page : ℕ) (kept : KeptPage)
    → AreKept trace cache.entries → IsKept trace page kept
    → AreKept trace (put_entries nat_eq cache page kept)
kept_put trace cache page kept are is =
    all_of_contained (λ (e : ℕ × KeptPage). IsKept trace e.0 e.1) (put_entries nat_eq cache page kept)
    (λ e inside.
    elim (Contains-put_entries nat_eq cache page kept e inside) [
      | inl was ↦ All-contains (λ (e : ℕ × KeptPage). IsKept trace e.0 e.1) cache.entries e are was
      | inr put ↦
          subst (λ (k : KeptPage). IsKept trace e.0 k) (sym put.0)
          (elim put.1 [
            | inl same ↦ subst (λ (p : ℕ). IsKept trace p kept) (sym same) is
            | inr was ↦ subst (λ (p : ℕ). IsKept trace p kept) (eqb-true page e.0 was.2) is
          ])
    ])

-- what is kept is right after a page that was made for the trace
pub kept_put_at : (trace : GuestTrace) (cache : LruCache ℕ KeptPage) (page version : ℕ) (kept : KeptPage)
    → AreKept trace cache.entries
    → page < trace.pages → version ≤ length trace.writes → kept ≡ page_with version (page_at trace page version)
    → AreKept trace (put_entries nat_eq cache page kept)
kept_put_at trace cache page version kept are low within made =
    let is : IsKept trace page (page_with version (page_at trace page version)) = (low, within, refl) in
    kept_put trace cache page kept are (subst (IsKept trace page) (sym made) is)

-- ---- which entries are there

some_entry : (o : Option (ℕ × KeptPage)) (kept : KeptPage) → option_map (λ e. e.1) o ≡ Some kept → is_some o ≡ true
some_entry None kept is = absurd (cc is)
some_entry (Some e) kept is = refl

no_entry : (o : Option (ℕ × KeptPage)) → option_map (λ e. e.1) o ≡ None → o ≡ None
no_entry None is = refl
no_entry (Some e) is = absurd (cc is)

-- the entry that is found passes the test
found_passes : (test : ℕ → Bool) (es : List (ℕ × KeptPage)) (e : ℕ × KeptPage) → lookup_entry test es ≡ Some e
    → test e.0 ≡ true
found_passes test [] e is = absurd (cc is)
found_passes test (x ∷ xs) e is =
    (elim (test x.0) as (λ b. test x.0 ≡ b → cond b (Some x) (lookup_entry test xs) ≡ Some e → test e.0 ≡ true) [
      | true ↦ λ passes same. subst (λ (f : ℕ × KeptPage). test f.0 ≡ true) (same_Some x e same) passes
      | false ↦ λ other same. found_passes test xs e same
    ]) refl is

-- no page is found in fewer entries
none_taken : (test : ℕ → Bool) (n : ℕ) (es : List (ℕ × KeptPage)) → lookup test es ≡ None
    → lookup_entry test (take n es) ≡ None
none_taken test zero es is = refl
none_taken test (suc n) [] is = refl
none_taken test (suc n) (x ∷ xs) is =
    (elim (test x.0) as (λ b. cond b (Some x.1) (lookup test xs) ≡ None
    → cond b (Some x) (lookup_entry test (take n xs)) ≡ None) [
      | true ↦ λ same. absurd (cc same)
      | false ↦ λ same. none_taken test n xs same
    ]) is

-- the entry that passes goes to the front, and its value is changed there
set_first : (test : ℕ → Bool) (es other : List (ℕ × KeptPage)) (kept : KeptPage) (o : Option (ℕ × KeptPage))
    → is_some o ≡ true → ((e : ℕ × KeptPage) → o ≡ Some e → test e.0 ≡ true)
    → set_value test (option_map_or (λ e. e ∷ remove_entry test es) o es) kept
    ≡ option_map_or (λ e. (e.0, kept) ∷ remove_entry test es) o other
set_first test es other kept None some passes = absurd (cc some)
set_first test es other kept (Some e) some passes = rw (passes e refl) refl

-- a page that is there goes to the front with its new value
pub used_entries : (cache : LruCache ℕ KeptPage) (page : ℕ) (was kept : KeptPage)
    → lookup (nat_eq page) cache.entries ≡ Some was
    → set_value (nat_eq page) (promoted (nat_eq page) cache.entries) kept ≡ put_entries nat_eq cache page kept
used_entries cache page was kept found =
    let entry = lookup_entry (nat_eq page) cache.entries in
    set_first (nat_eq page) cache.entries ((page, kept) ∷ take (cache.cap - 1) cache.entries) kept entry
    (some_entry entry was (lookup-lookup_entry (nat_eq page) cache.entries ∙ found))
    (λ e is. found_passes (nat_eq page) cache.entries e is)

-- a page that is not there changes nothing as it is looked for
pub absent_entries : (cache : LruCache ℕ KeptPage) (page : ℕ) → lookup (nat_eq page) cache.entries ≡ None
    → promoted (nat_eq page) cache.entries ≡ cache.entries
absent_entries cache page none = (promoted_absent nat_eq cache page (ap is_some none)).1

-- of a cache that is not full all stays, and of a full one all but the last
pub room_there : (entries : List (ℕ × KeptPage)) (cap : ℕ) → length entries < cap → entries ≡ take (cap - 1) entries
room_there entries cap few = sym (take_all (cap - 1) entries (omega (arith, few)))

pub room_made : (entries : List (ℕ × KeptPage)) (cap : ℕ) → length entries ≤ cap → ¬ (length entries < cap)
    → take (length entries - 1) entries ≡ take (cap - 1) entries
room_made entries cap most full = ap (λ n. take n entries) (omega (arith, most, full))

-- a new page in front of what is left after room was made for it
pub new_entries : (cache : LruCache ℕ KeptPage) (page : ℕ) (kept : KeptPage) → lookup (nat_eq page) cache.entries ≡ None
    → put_entries nat_eq (lru_cache (take (cache.cap - 1) cache.entries) cache.cap) page kept
    ≡ put_entries nat_eq cache page kept
new_entries cache page kept none =
    let left = take (cache.cap - 1) cache.entries in
    rw (
      none_taken (nat_eq page) (cache.cap - 1) cache.entries none,
      no_entry (lookup_entry (nat_eq page) cache.entries)
          (lookup-lookup_entry (nat_eq page) cache.entries ∙ none),
    )
    (ap (λ es. (page, kept) ∷ es) (take_all (cache.cap - 1) left
    (omega (arith, length-take (cache.cap - 1) cache.entries))))
