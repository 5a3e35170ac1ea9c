-- All of a stream of frames is taken.
use Rattle.std.proofs.Common.{◌≡◌, ℕ, ◌+◌, ◌^◌, ◌<◌, Bool, true, false, cond, List, [], length, Some, None}
use Rattle.std.proofs.Common.{Ok, Err, inr, ◌∙◌}
use Rattle.std.specs.Prelude.{◌==◌, nat_lt, nat_le}
use Rattle.std.specs.List.{flat_map, list_all}
use Rattle.std.proofs.lemmas.List.{append-nil}
use Rattle.std.proofs.lemmas.Option.{none-some, same_Some}
use Rattle.migration_model.specs.Frames.{GuestShape, IsGuestShape, PageFrame, SpellsStream, frame_text}
use Rattle.migration_model.specs.Parts.{with_frames}
use Rattle.collector.proofs.Taken.{takes_only}
use Rattle.page_message.specs.Reading.{bytes_in, kind_in, page_in, stamp_in}
use Rattle.page_message.specs.Refusals.{frame_refusal}
use Rattle.page_message.specs.declared.error.FrameError.{FrameError}
use Rattle.page_message.specs.declared.error.FrameError.TheVariants.{Short, Page, Stamp, Kind, ZeroData, Memory}
use Rattle.c_answers.specs.declared.flat_memory.PageState.{PageState}
use Rattle.c_answers.specs.declared.flat_memory.StreamTaken.{StreamTaken}
use Rattle.c_answers.specs.FlatMemory.{TakesFlat, flat_part}

-- no cause is lack of memory
no_memory : (short page stamp kind none cut zeros : Bool)
    → cond short (Some Short) (cond page (Some Page) (cond stamp (Some Stamp)
    (cond kind (Some Kind) (cond none None (cond cut (Some Short) (cond zeros (Some ZeroData) None))))))
    ≡ Some Memory
    → ⊥
no_memory true page stamp kind none cut zeros is = absurd (cc (same_Some Short Memory is))
no_memory false true stamp kind none cut zeros is = absurd (cc (same_Some Page Memory is))
no_memory false false true kind none cut zeros is = absurd (cc (same_Some Stamp Memory is))
no_memory false false false true none cut zeros is = absurd (cc (same_Some Kind Memory is))
no_memory false false false false true cut zeros is = none-some Memory is
no_memory false false false false false true zeros is = absurd (cc (same_Some Short Memory is))
no_memory false false false false false false true is = absurd (cc (same_Some ZeroData Memory is))
no_memory false false false false false false false is = none-some Memory is

-- so bytes are never refused for that
never_memory : (shape : GuestShape) (bytes : List ℕ) → frame_refusal shape bytes ≡ Some Memory → ⊥
never_memory shape bytes is =
    no_memory (nat_lt (length bytes) 9) (nat_le shape.pages (page_in bytes)) (nat_lt shape.writes (stamp_in bytes))
    (nat_lt 1 (kind_in bytes)) (kind_in bytes == 0)
    (nat_lt (length bytes) (9 + 2 ^ shape.shift)) (list_all (λ byte. byte == 0) (bytes_in shape bytes)) is

-- frames taken to the end of a stream are those of the stream
pub flat_only : (shape : GuestShape) (old new : List ℕ) (old_states new_states : List PageState) (stream : List ℕ)
    (taken : StreamTaken) (frames : List PageFrame)
    → IsGuestShape shape → TakesFlat shape old new old_states new_states stream taken []
    → SpellsStream shape stream frames
    → (taken.frames ≡ length frames) × (flat_part shape new new_states
    ≡ with_frames (flat_part shape old old_states) frames)
flat_only shape old new old_states new_states stream taken frames is takes spells =
    takes_only (flat_part shape old old_states) (flat_part shape new new_states) stream (Ok taken.frames) is takes.takes
    tt frames spells

-- and none of them is refused
pub flat_never : (shape : GuestShape) (old new : List ℕ) (old_states new_states : List PageState) (stream : List ℕ)
    (taken : StreamTaken) (rest : List ℕ)
    (e : FrameError) (frames : List PageFrame) → IsGuestShape shape
    → TakesFlat shape old new old_states new_states stream taken rest → 0 < length rest
    → frame_refusal shape rest ≡ Some e → SpellsStream shape stream frames → ⊥
flat_never shape old new old_states new_states stream taken rest e frames is takes some refused spells =
    let out = takes_only (flat_part shape old old_states) (flat_part shape new new_states) stream
    (Err (taken.frames, e)) is tt (inr (record {
      rest = rest;
      takes = takes.takes;
      some = some;
      refused = refused;
    })) frames spells in
    never_memory shape rest (cc (refused, out))

-- frames taken to the end of a stream make it up
pub flat_spelled : (shape : GuestShape) (old new : List ℕ) (old_states new_states : List PageState) (stream : List ℕ)
    (taken : StreamTaken) → TakesFlat shape old new old_states new_states stream taken []
    → (frames : List PageFrame) × SpellsStream shape stream frames
flat_spelled shape old new old_states new_states stream taken takes =
    let frames = takes.takes.frames in (
      frames,
      record {
        are_frames = takes.takes.are_frames;
        text = takes.takes.text ∙ append-nil (flat_map frame_text frames);
      },
    )
