use Rattle.std.proofs.Common.{◌≡◌, ℕ, suc, Bool, false, eqb, not, List, [], ◌∷◌, map, length, take, refl, sym, ◌∙◌}
use Rattle.std.proofs.Common.{arith, w8}
use Rattle.std.specs.List.{All}
use Rattle.std.specs.Simd.Lanes.{mask_l}
use Rattle.std.proofs.lemmas.Bool.{eq-eqb, eqb-true, not-false}
use Rattle.std.proofs.lemmas.List.{take_all, length-take-le}
use Rattle.std.proofs.lemmas.Simd.{bitmask_splat, none_from_empty_mask}
use Rattle.zero_pages.proofs.lanes_are_zero.Goals as goal

-- the mask is empty if no lane passes
mask_of_none : (p : ℕ → Bool) (lanes : List ℕ) → All (λ lane. p lane ≡ false) lanes → mask_l (map p lanes) ≡ 0
mask_of_none p [] none = refl
mask_of_none p (lane ∷ lanes) none = rw (
  none 0 0 (omega arith),
  mask_of_none p lanes (λ k d low. none (suc k) d (omega arith)),
) refl

pub returns : goal.returns
returns c =
    let block = c.args.block.now in
    let differs : ℕ → Bool = λ byte. not (eqb byte 0) in
    let long : length block ≡ 64 = c.requires in
    let mask = bitmask_splat w8 (λ (a b : ℕ). not (eqb a b)) (take 64 block) 64 0
    (length-take-le 64 block (omega arith)) (omega arith) in (
      λ empty k d low.
          eqb-true _ 0 (not-false _ (none_from_empty_mask differs block 0 64 d (omega arith)
          (sym mask ∙ eqb-true _ 0 empty) k (omega arith) (omega arith))),
      λ zeros.
          eq-eqb _ 0 (mask ∙ mask_of_none differs (take 64 block)
          (rw (take_all 64 block (omega arith)) (λ k d low. rw (zeros k d low) refl))),
    )
