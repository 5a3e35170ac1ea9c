use Rattle.std.proofs.Common.{ℕ, List, [], ◌∷◌, ◌++◌, None, Some, replicate, refl, sym, ap, ◌∙◌}
use Rattle.std.specs.Int.{w32}
use Rattle.std.proofs.lemmas.List.{append_assoc}
use Rattle.migration_model.specs.Frames.{frame_text, frame_with}
use Rattle.migration_model.specs.Numbers.{text_of}
use Rattle.page_message.proofs.ZeroBytes.{all_same}
use Rattle.page_message.proofs.encoding.append_frame.Goals as goal

pub returns-then-is_zero-clause-appended : goal.returns-then-is_zero-clause-appended
unfolding frame_text
returns-then-is_zero-clause-appended c = (
  frame_with c.args.page c.args.stamp None,
  record {
    fits = record { page = c.requires.page; stamp = c.requires.stamp; body = tt };
    page_is = refl;
    stamp_is = refl;
    content = ap (λ (n : ℕ). replicate n 0) (sym c.requires.whole)
        ∙ all_same 0 c.args.bytes.now (c.is_zero.ensures.0 c.if-is_zero.true);
  },
  rw (c.in_ok-extend_from_slice.ensures.items, c.head_of.ensures) refl,
)

pub returns-clause-appended : goal.returns-clause-appended
unfolding frame_text
returns-clause-appended c =
    let old = c.args.stream.now.items in
    let page = text_of w32 c.args.page in
    let stamp = text_of w32 c.args.stamp in
    let bytes = c.args.bytes.now in (
      frame_with c.args.page c.args.stamp (Some bytes),
      record {
        fits = record {
          page = c.requires.page;
          stamp = c.requires.stamp;
          body =
              (c.requires.whole, λ zeros. absurd (cc (c.if-is_zero.false, c.is_zero.ensures.1 zeros)));
        };
        page_is = refl;
        stamp_is = refl;
        content = refl;
      },
      rw (
        c.in_ok-extend_from_slice-3.ensures.items,
        c.in_ok-extend_from_slice-2.ensures.items,
        c.reserve.ensures.items,
        c.head_of-2.ensures,
      )
          (append_assoc old (page ++ (stamp ++ 1 ∷ [])) bytes
          ∙ ap (λ (text : List ℕ). old ++ text) (append_assoc page (stamp ++ 1 ∷ []) bytes
          ∙ ap (λ (text : List ℕ). page ++ text) (append_assoc stamp (1 ∷ []) bytes))),
    )
