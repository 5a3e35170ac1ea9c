-- The model's value for a body.
use Rattle.std.specs.Prelude.{ℕ, List, Option, Some, None}
use Rattle.page_message.specs.declared.frame.Body.{Body}
use Rattle.page_message.specs.declared.frame.Body.TheVariants.{Zero, Data}

abbrev pub body_of : Body → Option (List ℕ)
body_of Zero = None
body_of (Data bytes) = Some bytes.items
