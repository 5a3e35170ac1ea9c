-- How pages are drawn again: by a linear congruential generator with the numbers of Knuth's MMIX ("The Art of Computer
-- Programming", volume 2, section 3.3.4). It begins at state 0, so that the same sample has the same draws each time.
use Rattle.std.specs.Prelude.{◌≡◌, ℕ, zero, suc, ◌+◌, ◌*◌, ◌/◌, ◌%◌, ◌^◌, nat_lt, List, map}
use Rattle.std.specs.List.{filter, range_with_len}

unfoldable pub next_state : ℕ → ℕ
next_state state = (6_364_136_223_846_793_005 * state + 1_442_695_040_888_963_407) % 2 ^ 64

-- the state after some steps
unfoldable pub state_after : ℕ → ℕ
state_after zero = 0
state_after (suc steps) = next_state (state_after steps)

-- a state that the generator comes to
pub record IsState (state : ℕ) : Type 0 where
  pub steps : ℕ
  pub state_is : state ≡ state_after steps

-- the page that a state draws from a sample, by its upper 32 bits
abbrev pub page_at : ℕ → ℕ → ℕ
page_at sampled state = state / 2 ^ 32 * sampled / 2 ^ 32

-- The pages that are drawn after some steps: one a step, as many as the sample has, and each time from all of them. A
-- page past those of the trace was never seen, and is left out.
abbrev pub drawn_after : ℕ → ℕ → ℕ → List ℕ
drawn_after sampled pages steps = filter (λ page. nat_lt page pages)
    (map (λ step. page_at sampled (state_after step)) (range_with_len (steps + 1) sampled))

-- the first draws, one after another
abbrev pub draws_of : ℕ → ℕ → ℕ → List (List ℕ)
draws_of sampled pages count = map (λ draw. drawn_after sampled pages (draw * sampled)) (range_with_len 0 count)
