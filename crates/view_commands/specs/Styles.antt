-- How a report for a terminal is shown.
use Rattle.std.specs.Prelude.{◌≡◌, ◌≢◌, ◌<◌, ◌≤◌, ◌⊎◌, ℕ, Bool, List, Option, Some, None, codes, false, true}
use Rattle.clap.specs.Walk.{Row, Text, first_of}
use Rattle.job_commands.specs.Options.{IsGiven}
use Rattle.view_commands.specs.declared.options.StyleRefusal.{StyleRefusal}
use Rattle.view_commands.specs.declared.options.StyleRefusal.TheVariants as refusals
use Rattle.view_kinds.specs.declared.style.Style.{Style}

-- a width of a terminal's line
abbrev pub IsWidth : ℕ → Type 0
IsWidth n = (72 ≤ n) × (n ≤ 512)

-- Whether a bar has colors, by the word of its option and whether standard output is a terminal. Without the option it
-- has none. Where the option has no word, clap fills in `always`.
abbrev pub IsColored : Bool → Option Text → Bool → Type 0
IsColored terminal None colors = colors ≡ false
IsColored terminal (Some word) colors = ((word ≡ codes "never") × (colors ≡ false))
    ⊎ (((word ≡ codes "always") × (colors ≡ true)) ⊎ ((word ≡ codes "auto") × (colors ≡ terminal)))

-- the options ask for this style
pub record AsksForStyle (terminal : Bool) (rows : List Row) (style : Style) : Type 0 where
  pub width : IsGiven rows (codes "width") 80 style.width
  pub in_range : IsWidth style.width
  pub colors : IsColored terminal (first_of (codes "color") rows) style.colors

-- the options ask for a width that is out of range
pub record IsWidthRefused (rows : List Row) : Type 0 where
  pub width : ℕ
  pub given : IsGiven rows (codes "width") 80 width
  pub out_of_range : (width < 72) ⊎ (512 < width)

-- the option of colors has a word that it does not take
pub record IsColorRefused (rows : List Row) : Type 0 where
  pub word : Text
  pub given : first_of (codes "color") rows ≡ Some word
  pub not_never : word ≢ codes "never"
  pub not_always : word ≢ codes "always"
  pub not_auto : word ≢ codes "auto"

-- the options ask for no style, for this reason
abbrev pub RefusesStyle : List Row → StyleRefusal → Type 0
RefusesStyle rows refusals.Width = IsWidthRefused rows
RefusesStyle rows refusals.Color = IsColorRefused rows
