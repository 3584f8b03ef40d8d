-- The styles of names.
use Rattle.std.specs.Prelude.{ℕ, Bool, List, [], ◌∷◌, codes}
use Rattle.constant_names.specs.Camel.{camel_text}
use Rattle.constant_names.specs.Upper.{upper_text}
use Rattle.symbol_texts.specs.declared.style.Style.{Style}
use Rattle.symbol_texts.specs.declared.style.Style.TheVariants.{Camel, Capitals}

-- the words of a text in a style, after other words if `more`
abbrev pub words_in : Style → Bool → List ℕ → List ℕ
words_in Capitals more text = upper_text more text
words_in Camel more text = camel_text text

-- what is between a base and its number in a name
abbrev pub mark_of : Style → List ℕ
mark_of Capitals = codes "__"
mark_of Camel = codes "_"

-- the names that mean something else in the language
abbrev pub reserved_in : Style → List (List ℕ)
reserved_in Capitals = []
reserved_in Camel = codes "Self" ∷ []
