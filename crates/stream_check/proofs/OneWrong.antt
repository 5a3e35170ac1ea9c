-- Of frames and pages that are wrong one is the first, and it is wrong for one thing.
use Rattle.std.proofs.Common.{◌≡◌, ◌≢◌, ℕ, ◌<◌, ◌≤◌, List, [], ◌∷◌, ◌++◌, length, drop, Option, Some}
use Rattle.std.proofs.Common.{inl, inr, refl, sym, ap, subst, append_assoc, ◌∙◌, arith}
use Rattle.std.specs.Prelude.{slice_index}
use Rattle.std.specs.List.{All}
use Rattle.std.proofs.lemmas.Bool.{cases_lt}
use Rattle.std.proofs.lemmas.List.{append-nil, length-drop, take-append-drop}
use Rattle.std.proofs.lemmas.List.Elements.{All-head, All-tail}
use Rattle.std.proofs.lemmas.Option.{none-some, same_Some}
use Rattle.migration_model.specs.Trace.{GuestTrace, IsTrace}
use Rattle.migration_model.specs.Frames.{GuestShape, PageFrame, IsFrame, frame_text}
use Rattle.migration_model.specs.Final.{shape_of_trace}
use Rattle.migration_model.proofs.Frames.{same_front}
use Rattle.page_message.proofs.Found.{never_refused}
use Rattle.page_message.specs.Refusals.{frame_refusal}
use Rattle.page_message.specs.declared.error.FrameError.{FrameError}
use Rattle.page_message.specs.declared.error.FrameError.TheVariants.{Short}
use Rattle.page_versions.specs.Index.{version_after}
use Rattle.stream_check.specs.Checked.{Checked, StopsAt, TakesAll, after_frames}
use Rattle.stream_check.specs.Stamps.{no_stamps, stamp_of, keep_last, last_stamps, greatest_stamps}
use Rattle.stream_check.specs.Faults.{AreRight, BeginsRight, BeginsWrong, IsFault, IsWrongFront, IsFirstWrong}
use Rattle.stream_check.specs.Faults.{refused_for}
use Rattle.stream_check.specs.Ends.{AreCurrentStamps, IsFirstBehind, places_missing, tick_of_place}
use Rattle.stream_check.specs.Receivers.{all_frames}
use Rattle.stream_check.specs.Streams.{IsWrongIn, IsWrongAtEnd, texts_of}
use Rattle.stream_check.specs.declared.faults.FrameCause.{FrameCause}
use Rattle.stream_check.specs.declared.faults.FrameCause.TheVariants.{Refused, NoVersion, AfterStop, Older, Bytes}
use Rattle.stream_check.specs.declared.faults.FrameFault.{FrameFault}
use Rattle.stream_check.specs.declared.faults.WrongFrame.{WrongFrame}
use Rattle.stream_check.specs.declared.faults.WrongPage.{WrongPage}
use Rattle.stream_check.specs.declared.taken.Taken.{Taken}
use Rattle.stream_check.proofs.Only.{NextRight, StreamAt, front_not, heads, next_right, no_front, older_not}
use Rattle.stream_check.proofs.Only.{same_streams, shape_is, stream_at, stream_not}
use Rattle.stream_check.proofs.Only.{tails, takes_not_stops, text_of_frames}

-- ---- one frame is wrong for one thing

one_fault : (trace : GuestTrace) (stop : ℕ) (last : Option ℕ) (frame : PageFrame) (c d : FrameCause) (v w : ℕ)
    → IsFault trace stop last frame c v → IsFault trace stop last frame d w → (c ≡ d) × (v ≡ w)
one_fault trace stop last frame (Refused e) d v w one two = absurd one
one_fault trace stop last frame NoVersion (Refused e) v w one two = absurd two
one_fault trace stop last frame NoVersion NoVersion v w one two = (refl, one.0 ∙ sym two.0)
one_fault trace stop last frame NoVersion AfterStop v w one two = absurd (one.1 (two.0 ∙ sym one.0))
one_fault trace stop last frame NoVersion Older v w one two = absurd (one.1 (two.0 ∙ sym one.0))
one_fault trace stop last frame NoVersion Bytes v w one two = absurd (one.1 (two.0.version ∙ sym one.0))
one_fault trace stop last frame AfterStop (Refused e) v w one two = absurd two
one_fault trace stop last frame AfterStop NoVersion v w one two = absurd (two.1 (one.0 ∙ sym two.0))
one_fault trace stop last frame AfterStop AfterStop v w one two = (refl, one.2 ∙ sym two.2)
one_fault trace stop last frame AfterStop Older v w one two = absurd (omega (arith, one.1, two.1))
one_fault trace stop last frame AfterStop Bytes v w one two = absurd (omega (arith, one.1, two.0.in_time))
one_fault trace stop last frame Older (Refused e) v w one two = absurd two
one_fault trace stop last frame Older NoVersion v w one two = absurd (two.1 (one.0 ∙ sym two.0))
one_fault trace stop last frame Older AfterStop v w one two = absurd (omega (arith, two.1, one.1))
one_fault trace stop last frame Older Older v w one two = (refl, same_Some v w (sym one.2 ∙ two.2))
one_fault trace stop last frame Older Bytes v w one two =
    absurd (older_not last frame.stamp v one.2 one.3 two.0.in_order)
one_fault trace stop last frame Bytes (Refused e) v w one two = absurd two
one_fault trace stop last frame Bytes NoVersion v w one two = absurd (two.1 (one.0.version ∙ sym two.0))
one_fault trace stop last frame Bytes AfterStop v w one two = absurd (omega (arith, two.1, one.0.in_time))
one_fault trace stop last frame Bytes Older v w one two =
    absurd (older_not last frame.stamp w two.2 two.3 one.0.in_order)
one_fault trace stop last frame Bytes Bytes v w one two = (refl, one.2 ∙ sym two.2)

begins_text : (trace : GuestTrace) (stop : ℕ) (last : List (Option ℕ)) (rest : List ℕ) (fault : FrameFault)
    (begins : BeginsWrong trace stop last rest fault)
    → rest ≡ frame_text begins.frame ++ drop begins.size rest
begins_text trace stop last rest fault begins =
    sym (take-append-drop begins.size rest) ∙ ap (λ (x : List ℕ). x ++ drop begins.size rest) begins.spells.text

begins_not : (trace : GuestTrace) (stop : ℕ) (last : List (Option ℕ)) (rest : List ℕ) (fault : FrameFault)
    (e : FrameError) → IsTrace trace → BeginsWrong trace stop last rest fault
    → frame_refusal (shape_of_trace trace) rest ≡ Some e → ⊥
begins_not trace stop last rest fault e is begins refused =
    none-some e (sym (never_refused (shape_of_trace trace) rest (drop begins.size rest) begins.frame
    (shape_is trace is) begins.spells.is_frame (begins_text trace stop last rest fault begins)) ∙ refused)

one_begin : (trace : GuestTrace) (stop : ℕ) (last : List (Option ℕ)) (rest : List ℕ) (a b : FrameFault)
    → IsTrace trace → BeginsWrong trace stop last rest a → BeginsWrong trace stop last rest b → a ≡ b
one_begin trace stop last rest a b is one two =
    let front = same_front (shape_of_trace trace) one.frame two.frame (drop one.size rest) (drop two.size rest)
    (shape_is trace is) one.spells.is_frame two.spells.is_frame
    (sym (begins_text trace stop last rest a one) ∙ begins_text trace stop last rest b two) in
    let page : a.page ≡ b.page = one.page_is ∙ ap (λ (f : PageFrame). f.page) front.0 ∙ sym two.page_is in
    let stamp : a.stamp ≡ b.stamp = one.stamp_is ∙ ap (λ (f : PageFrame). f.stamp) front.0 ∙ sym two.stamp_is in
    let fault = one_fault trace stop (stamp_of last two.frame.page) two.frame a.cause b.cause a.wanted b.wanted
    (subst (λ (f : PageFrame). IsFault trace stop (stamp_of last f.page) f a.cause a.wanted) front.0 one.wrong)
    two.wrong in
    λ i. record { cause = fault.0 i; page = page i; stamp = stamp i; wanted = fault.1 i }

one_front : (trace : GuestTrace) (stop : ℕ) (last : List (Option ℕ)) (rest : List ℕ) (a b : FrameFault)
    → IsTrace trace → IsWrongFront trace stop last rest a → IsWrongFront trace stop last rest b → a ≡ b
one_front trace stop last rest a b is (inl one) (inl two) =
    one.1 ∙ ap refused_for (same_Some one.0 two.0 (sym one.2 ∙ two.2)) ∙ sym two.1
one_front trace stop last rest a b is (inl one) (inr two) =
    absurd (begins_not trace stop last rest b one.0 is two one.2)
one_front trace stop last rest a b is (inr one) (inl two) =
    absurd (begins_not trace stop last rest a two.0 is one two.2)
one_front trace stop last rest a b is (inr one) (inr two) = one_begin trace stop last rest a b is one two

-- ---- two cuts of the same bytes

-- if one has fewer frames, a right one is behind them
next_cut : (trace : GuestTrace) (stop : ℕ) (last : List (Option ℕ)) (fs gs : List PageFrame) (rest behind : List ℕ)
    → IsTrace trace → All (IsFrame (shape_of_trace trace)) fs → All (IsFrame (shape_of_trace trace)) gs
    → AreRight trace stop last gs → text_of_frames fs ++ rest ≡ text_of_frames gs ++ behind → length fs < length gs
    → NextRight trace stop (last_stamps last fs) rest
next_cut trace stop last fs [] rest behind is fit_f fit_g right same fewer = absurd (omega (arith, fewer))
next_cut trace stop last [] (g ∷ gs) rest behind is fit_f fit_g right same fewer = record {
  frame = g;
  behind = text_of_frames gs ++ behind;
  fits = All-head (IsFrame (shape_of_trace trace)) g gs fit_g;
  right = right.0;
  text = same ∙ append_assoc (frame_text g) (text_of_frames gs) behind;
}
next_cut trace stop last (f ∷ fs) (g ∷ gs) rest behind is fit_f fit_g right same fewer =
    let shape : GuestShape = shape_of_trace trace in
    let grouped : frame_text f ++ (text_of_frames fs ++ rest) ≡ frame_text g ++ (text_of_frames gs ++ behind) =
    sym (append_assoc (frame_text f) (text_of_frames fs) rest) ∙ same
    ∙ append_assoc (frame_text g) (text_of_frames gs) behind in
    let front = same_front shape f g (text_of_frames fs ++ rest) (text_of_frames gs ++ behind) (shape_is trace is)
    (All-head (IsFrame shape) f fs fit_f) (All-head (IsFrame shape) g gs fit_g) grouped in
    next_cut trace stop (keep_last last f) fs gs rest behind is (All-tail (IsFrame shape) f fs fit_f)
    (All-tail (IsFrame shape) g gs fit_g)
    (subst (λ (h : PageFrame). AreRight trace stop (keep_last last h) gs) (sym front.0) right.1) front.1
    (omega (arith, fewer))

-- if both have as many, they are the same
same_cut : (trace : GuestTrace) (fs gs : List PageFrame) (rest behind : List ℕ) → IsTrace trace
    → All (IsFrame (shape_of_trace trace)) fs → All (IsFrame (shape_of_trace trace)) gs
    → text_of_frames fs ++ rest ≡ text_of_frames gs ++ behind → length fs ≤ length gs → length gs ≤ length fs
    → (fs ≡ gs) × (rest ≡ behind)
same_cut trace [] [] rest behind is fit_f fit_g same low high = (refl, same)
same_cut trace [] (g ∷ gs) rest behind is fit_f fit_g same low high = absurd (omega (arith, high))
same_cut trace (f ∷ fs) [] rest behind is fit_f fit_g same low high = absurd (omega (arith, low))
same_cut trace (f ∷ fs) (g ∷ gs) rest behind is fit_f fit_g same low high =
    let shape : GuestShape = shape_of_trace trace in
    let grouped : frame_text f ++ (text_of_frames fs ++ rest) ≡ frame_text g ++ (text_of_frames gs ++ behind) =
    sym (append_assoc (frame_text f) (text_of_frames fs) rest) ∙ same
    ∙ append_assoc (frame_text g) (text_of_frames gs) behind in
    let front = same_front shape f g (text_of_frames fs ++ rest) (text_of_frames gs ++ behind) (shape_is trace is)
    (All-head (IsFrame shape) f fs fit_f) (All-head (IsFrame shape) g gs fit_g) grouped in
    let more = same_cut trace fs gs rest behind is (All-tail (IsFrame shape) f fs fit_f)
    (All-tail (IsFrame shape) g gs fit_g) front.1 (omega (arith, low)) (omega (arith, high)) in
    ((λ i. front.0 i ∷ more.0 i), more.1)

-- where the same bytes are left, as many were in front of them
same_offset : (bytes : List ℕ) (m n : ℕ) → m ≤ length bytes → n ≤ length bytes → drop m bytes ≡ drop n bytes → m ≡ n
same_offset bytes m n low high same = omega (arith, low, high, length-drop m bytes, length-drop n bytes, ap length same)

-- ---- the first frame that is wrong

record SameFirst (trace : GuestTrace) (stop : ℕ) (last : List (Option ℕ)) (bytes : List ℕ) (a b : WrongFrame)
    (one : IsFirstWrong trace stop last bytes a) (two : IsFirstWrong trace stop last bytes b) : Type 0 where
  pub frames : one.frames ≡ two.frames
  pub rest : drop a.offset bytes ≡ drop b.offset bytes

none_before : (trace : GuestTrace) (stop : ℕ) (last : List (Option ℕ)) (bytes : List ℕ) (a b : WrongFrame)
    → IsTrace trace → (one : IsFirstWrong trace stop last bytes a) → (two : IsFirstWrong trace stop last bytes b)
    → length one.frames < length two.frames → ⊥
none_before trace stop last bytes a b is one two fewer =
    front_not trace stop (last_stamps last one.frames) (drop a.offset bytes) a.fault is
    (next_cut trace stop last one.frames two.frames (drop a.offset bytes) (drop b.offset bytes) is
    one.begins.are_frames two.begins.are_frames two.begins.right (sym one.begins.text ∙ two.begins.text) fewer)
    one.wrong

same_first : (trace : GuestTrace) (stop : ℕ) (last : List (Option ℕ)) (bytes : List ℕ) (a b : WrongFrame)
    → IsTrace trace → (one : IsFirstWrong trace stop last bytes a) → (two : IsFirstWrong trace stop last bytes b)
    → SameFirst trace stop last bytes a b one two
same_first trace stop last bytes a b is one two = elim (cases_lt (length one.frames) (length two.frames)) [
  | inl fewer ↦ absurd (none_before trace stop last bytes a b is one two fewer)
  | inr low ↦ elim (cases_lt (length two.frames) (length one.frames)) [
    | inl fewer ↦ absurd (none_before trace stop last bytes b a is two one fewer)
    | inr high ↦
        let same = same_cut trace one.frames two.frames (drop a.offset bytes) (drop b.offset bytes) is
        one.begins.are_frames two.begins.are_frames (sym one.begins.text ∙ two.begins.text) high low in
        record { frames = same.0; rest = same.1 }
  ]
]

one_first : (trace : GuestTrace) (stop : ℕ) (last : List (Option ℕ)) (bytes : List ℕ) (a b : WrongFrame)
    → IsTrace trace → IsFirstWrong trace stop last bytes a → IsFirstWrong trace stop last bytes b → a ≡ b
one_first trace stop last bytes a b is one two =
    let same = same_first trace stop last bytes a b is one two in
    let number : a.number ≡ b.number = sym one.number ∙ ap length same.frames ∙ two.number in
    let offset : a.offset ≡ b.offset = same_offset bytes a.offset b.offset (omega (arith, one.within))
    (omega (arith, two.within)) same.rest in
    let moved : IsWrongFront trace stop (last_stamps last two.frames) (drop b.offset bytes) a.fault =
    subst (λ (fs : List PageFrame). IsWrongFront trace stop (last_stamps last fs) (drop b.offset bytes) a.fault)
    same.frames (subst (λ (r : List ℕ). IsWrongFront trace stop (last_stamps last one.frames) r a.fault) same.rest
    one.wrong) in
    let fault : a.fault ≡ b.fault = one_front trace stop (last_stamps last two.frames) (drop b.offset bytes) a.fault
    b.fault is moved two.wrong in
    λ i. record { number = number i; offset = offset i; fault = fault i }

pub one_found : (trace : GuestTrace) (old new other : Checked) (bytes : List ℕ) (a b : WrongFrame) → IsTrace trace
    → StopsAt trace old new bytes a → StopsAt trace old other bytes b → a ≡ b
one_found trace old new other bytes a b is one two =
    one_first trace old.stop old.last bytes a b is one.first two.first

pub one_left : (trace : GuestTrace) (old new other : Checked) (bytes : List ℕ) (a b : WrongFrame) → IsTrace trace
    → StopsAt trace old new bytes a → StopsAt trace old other bytes b → new ≡ other
one_left trace old new other bytes a b is one two =
    one.after ∙ ap (after_frames old) (same_first trace old.stop old.last bytes a b is one.first two.first).frames
    ∙ sym two.after

-- ---- all that is taken

fewer_not : (trace : GuestTrace) (old new other : Checked) (bytes : List ℕ) (a b : Taken) → IsTrace trace
    → (one : TakesAll trace old new bytes a) → (two : TakesAll trace old other bytes b)
    → length one.takes.frames < length two.takes.frames → ⊥
fewer_not trace old new other bytes a b is one two fewer =
    let next = next_cut trace old.stop old.last one.takes.frames two.takes.frames (drop a.bytes bytes)
    (drop b.bytes bytes) is one.takes.begins.are_frames two.takes.begins.are_frames two.takes.begins.right
    (sym one.takes.begins.text ∙ two.takes.begins.text) fewer in
    no_front trace (drop a.bytes bytes) next.behind next.frame is next.fits next.text one.part

same_taken : (trace : GuestTrace) (old new other : Checked) (bytes : List ℕ) (a b : Taken) → IsTrace trace
    → (one : TakesAll trace old new bytes a) → (two : TakesAll trace old other bytes b)
    → (one.takes.frames ≡ two.takes.frames) × (drop a.bytes bytes ≡ drop b.bytes bytes)
same_taken trace old new other bytes a b is one two =
    elim (cases_lt (length one.takes.frames) (length two.takes.frames)) [
      | inl fewer ↦ absurd (fewer_not trace old new other bytes a b is one two fewer)
      | inr low ↦ elim (cases_lt (length two.takes.frames) (length one.takes.frames)) [
        | inl fewer ↦ absurd (fewer_not trace old other new bytes b a is two one fewer)
        | inr high ↦
            same_cut trace one.takes.frames two.takes.frames (drop a.bytes bytes) (drop b.bytes bytes) is
            one.takes.begins.are_frames two.takes.begins.are_frames
            (sym one.takes.begins.text ∙ two.takes.begins.text) high low
      ]
    ]

pub one_taken : (trace : GuestTrace) (old new other : Checked) (bytes : List ℕ) (a b : Taken) → IsTrace trace
    → TakesAll trace old new bytes a → TakesAll trace old other bytes b → a ≡ b
one_taken trace old new other bytes a b is one two =
    let same = same_taken trace old new other bytes a b is one two in
    let frames : a.frames ≡ b.frames = sym one.takes.count_is ∙ ap length same.0 ∙ two.takes.count_is in
    let count : a.bytes ≡ b.bytes = same_offset bytes a.bytes b.bytes one.within two.within same.1 in
    λ i. record { frames = frames i; bytes = count i }

pub one_kept : (trace : GuestTrace) (old new other : Checked) (bytes : List ℕ) (a b : Taken) → IsTrace trace
    → TakesAll trace old new bytes a → TakesAll trace old other bytes b → new ≡ other
one_kept trace old new other bytes a b is one two =
    one.takes.after ∙ ap (after_frames old) (same_taken trace old new other bytes a b is one two).0
    ∙ sym two.takes.after

pub none_wrong : (trace : GuestTrace) (old new other : Checked) (bytes : List ℕ) (taken : Taken) (found : WrongFrame)
    → IsTrace trace → found.fault.cause ≢ Refused Short → TakesAll trace old new bytes taken
    → StopsAt trace old other bytes found → ⊥
none_wrong trace old new other bytes taken found is other_cause takes stops =
    takes_not_stops trace old new other bytes taken found is takes other_cause stops

pub right_not : (trace : GuestTrace) (stop : ℕ) (last : List (Option ℕ)) (bytes : List ℕ) (frames : List PageFrame)
    (found : WrongFrame) → IsTrace trace → BeginsRight trace stop last bytes frames []
    → IsFirstWrong trace stop last bytes found → ⊥
right_not trace stop last bytes frames found is begins wrong =
    front_not trace stop (last_stamps last wrong.frames) (drop found.offset bytes) found.fault is
    (next_right trace stop last wrong.frames frames (drop found.offset bytes) is wrong.begins.are_frames
    begins.are_frames begins.right (omega (arith, wrong.within, length-drop found.offset bytes))
    (sym wrong.begins.text ∙ begins.text ∙ append-nil (text_of_frames frames))) wrong.wrong

-- ---- the first page that is behind

page_not : (trace : GuestTrace) (stop : ℕ) (greatest : List (Option ℕ)) (a b : WrongPage)
    → IsFirstBehind trace stop greatest a → IsFirstBehind trace stop greatest b → a.page < b.page → ⊥
page_not trace stop greatest a b one two less =
    one.behind (one.stamp ∙ two.first a.page less ∙ ap (λ (v : ℕ). Some v) (sym one.wanted))

pub one_page : (trace : GuestTrace) (stop : ℕ) (greatest : List (Option ℕ)) (a b : WrongPage)
    → IsFirstBehind trace stop greatest a → IsFirstBehind trace stop greatest b → a ≡ b
one_page trace stop greatest a b one two = elim (cases_lt a.page b.page) [
  | inl less ↦ absurd (page_not trace stop greatest a b one two less)
  | inr low ↦ elim (cases_lt b.page a.page) [
    | inl less ↦ absurd (page_not trace stop greatest b a two one less)
    | inr high ↦
        let page : a.page ≡ b.page = omega (arith, low, high) in
        let stamp : a.stamp ≡ b.stamp = one.stamp ∙ ap (stamp_of greatest) page ∙ sym two.stamp in
        let wanted : a.wanted ≡ b.wanted =
        one.wanted ∙ ap (λ (p : ℕ). version_after trace p stop) page ∙ sym two.wanted in
        let missing : a.missing ≡ b.missing =
        one.missing ∙ (λ i. slice_index (places_missing trace stop (page i) (stamp i)) 0) ∙ sym two.missing in
        let tick : a.tick ≡ b.tick = one.tick ∙ ap (tick_of_place trace) missing ∙ sym two.tick in
        λ i. record { page = page i; stamp = stamp i; wanted = wanted i; missing = missing i; tick = tick i }
  ]
]

pub none_behind : (trace : GuestTrace) (stop : ℕ) (greatest : List (Option ℕ)) (found : WrongPage)
    → AreCurrentStamps trace stop greatest → IsFirstBehind trace stop greatest found → ⊥
none_behind trace stop greatest found current wrong =
    wrong.behind (wrong.stamp ∙ current found.page wrong.page ∙ ap (λ (v : ℕ). Some v) (sym wrong.wanted))

-- ---- the first thing in all streams

-- the stream behind others, among more right ones
stream_cut : (trace : GuestTrace) (stop : ℕ) (fs gs : List (List PageFrame)) (bytes : List ℕ)
    (more behind : List (List ℕ)) → All (All (IsFrame (shape_of_trace trace))) gs
    → All (AreRight trace stop (no_stamps trace.pages)) gs
    → texts_of fs ++ bytes ∷ more ≡ texts_of gs ++ behind → length fs < length gs → StreamAt trace stop bytes
stream_cut trace stop fs [] bytes more behind fit right same fewer = absurd (omega (arith, fewer))
stream_cut trace stop [] (g ∷ gs) bytes more behind fit right same fewer = record {
  frames = g;
  fits = All-head (All (IsFrame (shape_of_trace trace))) g gs fit;
  right = All-head (AreRight trace stop (no_stamps trace.pages)) g gs right;
  text = heads bytes (text_of_frames g) more (texts_of gs ++ behind) same;
}
stream_cut trace stop (f ∷ fs) (g ∷ gs) bytes more behind fit right same fewer =
    stream_cut trace stop fs gs bytes more behind (All-tail (All (IsFrame (shape_of_trace trace))) g gs fit)
    (All-tail (AreRight trace stop (no_stamps trace.pages)) g gs right)
    (tails (text_of_frames f) (text_of_frames g) (texts_of fs ++ bytes ∷ more) (texts_of gs ++ behind) same)
    (omega (arith, fewer))

-- the same place in two cuts
same_bytes : (fs gs : List (List PageFrame)) (bytes other : List ℕ) (more behind : List (List ℕ))
    → texts_of fs ++ bytes ∷ more ≡ texts_of gs ++ other ∷ behind → length fs ≤ length gs → length gs ≤ length fs
    → bytes ≡ other
same_bytes [] [] bytes other more behind same low high = heads bytes other more behind same
same_bytes [] (g ∷ gs) bytes other more behind same low high = absurd (omega (arith, high))
same_bytes (f ∷ fs) [] bytes other more behind same low high = absurd (omega (arith, low))
same_bytes (f ∷ fs) (g ∷ gs) bytes other more behind same low high =
    same_bytes fs gs bytes other more behind
    (tails (text_of_frames f) (text_of_frames g) (texts_of fs ++ bytes ∷ more) (texts_of gs ++ other ∷ behind) same)
    (omega (arith, low)) (omega (arith, high))

no_earlier : (trace : GuestTrace) (stop : ℕ) (texts : List (List ℕ)) (m n : ℕ) (a b : WrongFrame) → IsTrace trace
    → IsWrongIn trace stop texts m a → IsWrongIn trace stop texts n b → m < n → ⊥
no_earlier trace stop texts m n a b is one two less =
    let at = stream_cut trace stop one.streams two.streams one.bytes one.more (two.bytes ∷ two.more) two.are_frames
    two.right (sym one.parts ∙ two.parts) (omega (arith, one.number, two.number, less)) in
    stream_not trace stop at.frames one.bytes a is at.fits at.right at.text one.first

pub one_stream : (trace : GuestTrace) (stop : ℕ) (texts : List (List ℕ)) (m n : ℕ) (a b : WrongFrame) → IsTrace trace
    → IsWrongIn trace stop texts m a → IsWrongIn trace stop texts n b → m ≡ n
one_stream trace stop texts m n a b is one two = elim (cases_lt m n) [
  | inl less ↦ absurd (no_earlier trace stop texts m n a b is one two less)
  | inr low ↦ elim (cases_lt n m) [
    | inl less ↦ absurd (no_earlier trace stop texts n m b a is two one less)
    | inr high ↦ omega (arith, low, high)
  ]
]

pub one_frame_in : (trace : GuestTrace) (stop : ℕ) (texts : List (List ℕ)) (m n : ℕ) (a b : WrongFrame)
    → IsTrace trace → IsWrongIn trace stop texts m a → IsWrongIn trace stop texts n b → a ≡ b
one_frame_in trace stop texts m n a b is one two =
    let number = one_stream trace stop texts m n a b is one two in
    let same : one.bytes ≡ two.bytes =
    same_bytes one.streams two.streams one.bytes two.bytes one.more two.more (sym one.parts ∙ two.parts)
    (omega (arith, one.number, two.number, number)) (omega (arith, one.number, two.number, number)) in
    one_first trace stop (no_stamps trace.pages) two.bytes a b is
    (subst (λ (x : List ℕ). IsFirstWrong trace stop (no_stamps trace.pages) x a) same one.first) two.first

pub one_at_end : (trace : GuestTrace) (stop : ℕ) (texts : List (List ℕ)) (a b : WrongPage) → IsTrace trace
    → IsWrongAtEnd trace stop texts a → IsWrongAtEnd trace stop texts b → a ≡ b
one_at_end trace stop texts a b is one two =
    let same : all_frames one.streams ≡ all_frames two.streams =
    same_streams trace one.streams two.streams is one.are.are_frames two.are.are_frames
    (sym one.are.texts_are ∙ two.are.texts_are) in
    one_page trace stop (greatest_stamps (no_stamps trace.pages) (all_frames two.streams)) a b
    (subst (λ (fs : List PageFrame). IsFirstBehind trace stop (greatest_stamps (no_stamps trace.pages) fs) a) same
    one.behind) two.behind

pub apart : (trace : GuestTrace) (stop : ℕ) (texts : List (List ℕ)) (n : ℕ) (a : WrongPage) (b : WrongFrame)
    → IsTrace trace → IsWrongAtEnd trace stop texts a → IsWrongIn trace stop texts n b → ⊥
apart trace stop texts n a b is ends wrong =
    let at = stream_at trace stop wrong.streams ends.streams wrong.bytes wrong.more ends.are.are_frames ends.are.right
    (sym wrong.parts ∙ ends.are.texts_are) in
    stream_not trace stop at.frames wrong.bytes b is at.fits at.right at.text wrong.first
