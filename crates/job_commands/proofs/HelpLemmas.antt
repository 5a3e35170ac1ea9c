-- Words that a command line takes name one of its commands, and not clap's own `help`.
use Rattle.std.proofs.Common.{◌≡◌, ℕ, Bool, true, false, ◌||◌, ◌&&◌, not, cond, List, [], ◌∷◌, Option, Some, None, inl}
use Rattle.std.proofs.Common.{inr, refl, sym, ap, subst, codes}
use Rattle.std.specs.Prelude.{◌≢◌, ◌⊎◌, ⊤, IfSome, is_some, find, fold, if◌then◌else◌, option_and_then, option_map}
use Rattle.std.specs.Str.{bytes_eq}
use Rattle.std.proofs.lemmas.Slice.Eq.{bytes_eq-Decides}
use Rattle.clap.proofs.OnLiterals.{clap_on_literals}
use Rattle.clap.specs.Faults.{fault_of, other_fault, turn_fault, walk_fault, word_fault}
use Rattle.clap.specs.Kinds.{Kinds, or_else}
use Rattle.clap.specs.Lexer.{long_of, short_of}
use Rattle.clap.specs.Simple.{App, Shape, argument_words, built, label_of, names_of, rows_at, subcommand_of}
use Rattle.clap.specs.Walk.{Held, Names, Outcome, Row, Rule, Step, Text, Waiting, Walk, after_flag, after_step}
use Rattle.clap.specs.Walk.{answers_to, arg_by_index, done, idle, long_or_other, next, nothing_held, option, plain}
use Rattle.clap.specs.Walk.{plain_word, positional, refused, short_or_plain}
use Rattle.clap.specs.Walk.{subcommand, subcommand_met, subcommand_or_other, to_positional, trailing, value, waits}
use Rattle.clap.specs.Walk.{walk_from, walked, walked_from, word_met}
use Rattle.job_commands.specs.Commands.{command_in, precopy_line}
use Rattle.job_commands.specs.Jobs.{IsCommand}

-- no command was met, or one that is not `help`
abbrev pub NoHelp : Option (Text × List Text) → Type 0
NoHelp o = IfSome o (λ p. p.0 ≢ codes "help")

-- the step does not enter `help`
abbrev pub Passes : Step → Type 0
Passes (next w) = ⊤
Passes (trailing n) = ⊤
Passes (subcommand name) = name ≢ codes "help"
Passes value = ⊤

plain_passes : (c : List Rule) (w : Waiting) (word : Text) (h : Held) → Passes (plain_word c w word h).1
plain_passes c (option id) word h = tt
plain_passes c idle word h = tt
plain_passes c positional word h = tt

flag_passes : (c : List Rule) (w : Waiting) (word : Text) (h : Held) (o : Outcome) → Passes (after_flag c w word h o).1
flag_passes c w word h done = tt
flag_passes c w word h (waits id) = tt
flag_passes c w word h plain = plain_passes c w word h
flag_passes c w word h refused = plain_passes c w word h

short_passes : (c : List Rule) (w : Waiting) (word : Text) (flags : Option Text) (h : Held)
    → Passes (short_or_plain c w word flags h).1
short_passes c w word (Some flags) h = flag_passes c w word _ _
short_passes c w word None h = plain_passes c w word h

other_passes : (c : List Rule) (w : Waiting) (word : Text) (long : Option (Text × Option Text)) (h : Held)
    → Passes (long_or_other c w word long h).1
other_passes c w word (Some p) h = flag_passes c w word _ _
other_passes c w word None h = short_passes c w word (short_of word) h

chosen : (b : Bool) (x y : Held × Step) → Passes x.1 → Passes y.1 → Passes (if b then x else y).1
chosen true x y left right = left
chosen false x y left right = right

-- `help` is a fault if it is met
not_help : (asked able : Bool) (kinds : Kinds) (k : _) → able ≡ true → (if asked && able then k ∷ kinds else []) ≡ []
    → asked ≡ false
not_help true true kinds k on none = absurd cc
not_help true false kinds k on none = absurd cc
not_help false able kinds k on none = refl

met_passes : (s : Shape) (met : Option Text) (w : Waiting) (position : ℕ) (word : Text) (h : Held)
    → s.disable_help_subcommand ≡ false → other_fault s met word h ≡ []
    → Passes (subcommand_or_other s.rules met w position word h).1
met_passes s (Some name) w position word h on none = λ is.
    let asked = not_help (bytes_eq name (codes "help")) (not s.disable_help_subcommand) _ _
    (ap (λ (b : Bool). not b) on) none in
    let same = (bytes_eq-Decides name (codes "help")).1 is in
    absurd cc
met_passes s None w position word h on none = chosen (bytes_eq word (45 ∷ 45 ∷ [])) (h, trailing position)
    (long_or_other s.rules w word (long_of word) h) tt (other_passes s.rules w word (long_of word) h)

word_passes : (s : Shape) (names : Names) (behind : Bool) (w : Waiting) (position : ℕ) (word : Text) (h : Held)
    → s.disable_help_subcommand ≡ false → word_fault s names behind w word h ≡ []
    → Passes (word_met s.rules names behind w position word h).1
word_passes s names true w position word h on none = tt
word_passes s names false w position word h on none = met_passes s (subcommand_met names w word) w position word h on
    none

stays_out : (c : List Rule) (a : Option Rule) (word : Text) (w : Walk) (h : Held) → NoHelp w.stopped
    → NoHelp (to_positional c a word w h).stopped
stays_out c None word w h out = out
stays_out c (Some a) word w h out = tt

step_out : (c : List Rule) (word : Text) (w : Walk) (h : Held) (s : Step) → Passes s → NoHelp w.stopped
    → NoHelp (after_step c word w h s).stopped
step_out c word w h (next waiting) passes out = out
step_out c word w h (trailing position) passes out = out
step_out c word w h (subcommand name) passes out = passes
step_out c word w h value passes out = stays_out c (arg_by_index c w.position) word w h out

first_of : (a b : Kinds) → or_else a b ≡ [] → a ≡ []
first_of [] b none = refl
first_of (k ∷ ks) b none = absurd cc

second_of : (a b : Kinds) → or_else a b ≡ [] → b ≡ []
second_of [] b none = none
second_of (k ∷ ks) b none = absurd cc

turn_out : (s : Shape) (names : Names) (w : Walk) (word : Text) (o : Option (Text × List Text)) (more : Kinds)
    → s.disable_help_subcommand ≡ false → w.stopped ≡ o
    → (if is_some o then [] else or_else (word_fault s names w.is_trailing w.waiting word w.held) more) ≡ [] → NoHelp o
    → NoHelp (walked_from s.rules names o w word).stopped
turn_out s names w word None more on is none out =
    let met = word_met s.rules names w.is_trailing w.waiting w.position word w.held in
    step_out s.rules word w met.0 met.1 (word_passes s names w.is_trailing w.waiting w.position word w.held on
    (first_of _ more none)) (subst NoHelp (sym is) out)
turn_out s names w word (Some p) more on is none out = out

walk_out : (s : Shape) (names : Names) (words : List Text) (w : Walk) → s.disable_help_subcommand ≡ false
    → walk_fault s names w words ≡ [] → NoHelp w.stopped → NoHelp (fold (walked s.rules names) w words).stopped
unfolding walk_fault walked
walk_out s names [] w on none out = out
walk_out s names (word ∷ rest) w on none out =
    walk_out s names rest (walked_from s.rules names w.stopped w word) on (second_of (turn_fault s names w word) _ none)
    (turn_out s names w word w.stopped _ on refl (first_of (turn_fault s names w word) _ none) out)

module _ (Known : Text → Type 0) where
  -- each has the name of a command, or is `help`, and no other name
  abbrev pub AreNamed : List Shape → Type 0
  AreNamed [] = ⊤
  AreNamed (s ∷ rest) = (s.aliases ≡ []) × ((s.name ≡ codes "help") ⊎ Known s.name) × AreNamed rest

  first_named : (test : Shape → Bool) (b : Bool) (s : Shape) (rest : Option Shape) (found : Shape) → test s ≡ b
      → cond b (Some s) rest ≡ Some found → ((s ≡ found) × (test s ≡ true)) ⊎ (rest ≡ Some found)
  first_named test true s rest found is here = inl (cc, is)
  first_named test false s rest found is here = inr here

  found_named : (test : Shape → Bool) (subs : List Shape) (found : Shape) → AreNamed subs → find test subs ≡ Some found
      → (test found ≡ true) × (found.aliases ≡ []) × ((found.name ≡ codes "help") ⊎ Known found.name)
  found_named test [] found named is = absurd cc
  found_named test (s ∷ rest) found named is =
      let P : Shape → Type 0 = λ x. (test x ≡ true) × (x.aliases ≡ []) × ((x.name ≡ codes "help") ⊎ Known x.name) in
      elim (first_named test (test s) s (find test rest) found refl is) [
        | inl here ↦ subst P here.0 (here.1, named.0, named.1)
        | inr later ↦ found_named test rest found named.2 later
      ]

  plain_name : (b : Bool) → (b || false) ≡ true → b ≡ true
  plain_name true is = refl
  plain_name false is = is

  -- a command that answers to a word that is not `help` is not `help`
  not_named_help : (word name : Text) (aliases : List Text) → word ≢ codes "help" → aliases ≡ [] → name ≡ codes "help"
      → answers_to word (name, aliases) ≡ true → ⊥
  not_named_help word name aliases other none is answers =
      let P : Text × List Text → Type 0 = λ s. answers_to word s ≡ true in
      let plain = subst P (λ i. (is i, none i)) answers in
      other (sym ((bytes_eq-Decides (codes "help") word).0 (plain_name (bytes_eq (codes "help") word) plain)))

  same_first : (a b : Text) (x y : List Row) → ◌≡◌ {A = Option (Text × List Row)} (Some (a, x)) (Some (b, y)) → a ≡ b
  same_first a b x y is =
      let pairs : ◌≡◌ {A = Text × List Row} (a, x) (b, y) = cc in
      ap (λ (p : Text × List Row). p.0) pairs

  found_known : (subs : List Shape) (p : Text × List Text) (found : Option Shape) (name : Text) (rows : List Row)
      → AreNamed subs → p.0 ≢ codes "help" → find (λ s. answers_to p.0 (label_of s)) subs ≡ found
      → option_map (λ s. rows_at s p.1) found ≡ Some (name, rows) → Known name
  found_known subs p None name rows named other is here = absurd cc
  found_known subs p (Some s) name rows named other is here =
      let f = found_named (λ x. answers_to p.0 (label_of x)) subs s named is in
      let same = same_first s.name name _ rows here in
      subst Known same (elim f.2 [
        | inl help ↦ absurd (not_named_help p.0 s.name s.aliases other f.1 help f.0)
        | inr known ↦ known
      ])

  entered_known : (subs : List Shape) (stop : Option (Text × List Text)) (name : Text) (rows : List Row) → AreNamed subs
      → NoHelp stop
      → option_and_then (λ p. option_map (λ s. rows_at s p.1) (find (λ s. answers_to p.0 (label_of s)) subs)) stop
      ≡ Some (name, rows) → Known name
  entered_known subs None name rows named out is = absurd cc
  entered_known subs (Some p) name rows named out is = found_known subs p _ name rows named out refl is

  -- words that a line takes name a command of it
  pub command_is_known_on : (line : App) → AreNamed (built line).subs → (built line).top.disable_help_subcommand ≡ false
      → (words : List Text) (name : Text) (rows : List Row)
      → fault_of line words ≡ [] → subcommand_of line words ≡ Some (name, rows) → Known name
  command_is_known_on line named able words name rows taken is =
      let all = built line in
      let args = argument_words line words in
      let walked_well : walk_fault all.top (names_of all) (walk_from nothing_held) args ≡ [] = first_of _ _ taken in
      entered_known all.subs _ name rows named (walk_out all.top (names_of all) args (walk_from nothing_held) able
      walked_well tt) is

line_is_named : AreNamed IsCommand (built precopy_line).subs
unfolding precopy_line clap_on_literals
line_is_named = (
  refl,
  inr (inl refl),
  (
    refl,
    inr (inr (inl refl)),
    (refl, inr (inr (inr (inl refl))), (refl, inr (inr (inr (inr refl))), (refl, inl refl, tt))),
  ),
)

line_has_help : (built precopy_line).top.disable_help_subcommand ≡ false
unfolding precopy_line clap_on_literals
line_has_help = refl

-- words that are taken name a command of `precopy`
pub command_is_known : (words : List Text) (name : Text) (rows : List Row) → fault_of precopy_line words ≡ []
    → command_in words ≡ Some (name, rows) → IsCommand name
command_is_known = command_is_known_on IsCommand precopy_line line_is_named line_has_help
