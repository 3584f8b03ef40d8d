-- The symbol by which a state is entered, item by item.
use Rattle.std.proofs.Common.{◌≡◌, ◌<◌, ◌≤◌, ◌+◌, ◌-◌, ℕ, List, [], Option, drop, get_or, length, slice_get, sym, ap, ◌∙◌}
use Rattle.std.proofs.lemmas.List.{at_drop_all, at_drop_more}
use Rattle.std.specs.Borrow.{Bor}
use Rattle.std.specs.Option.{option_copied}
use Rattle.lalrpop_base.specs.Words.{Bits, Dotted, prefix_of}
use Rattle.lalrpop_grammar.specs.declared.repr.Symbol.{Symbol}
use Rattle.table_pictures.specs.Nodes.{entry_xml, read_xml}

-- the last symbol before the dot of an item, if there is one
abbrev pub last_read : Dotted Bits → Option Symbol
last_read item = slice_get (prefix_of item) (length (prefix_of item) - 1)

-- the last symbol of the prefix of an item is that before its dot
pub last_in_prefix : (item : Dotted Bits) (prefix : List Symbol) (last : Option (Bor Symbol)) → prefix ≡ prefix_of item → option_copied last ≡ slice_get prefix (length prefix - 1) → last_read item ≡ option_copied last
last_in_prefix item prefix last same is = ap (λ symbols. slice_get symbols (length symbols - 1)) (sym same) ∙ sym is

-- what the items from an index on give: the last symbol before the dot of the first of them, or
-- what the others give
pub entry_more : (items : List (Dotted Bits)) (i : ℕ) (item : Dotted Bits) (last : Option Symbol) → i < length items → item ≡ get_or items i item → last_read item ≡ last →
    entry_xml (drop i items) ≡ read_xml last (entry_xml (drop (i + 1) items))
unfolding entry_xml
entry_more items i item last inside same is =
    at_drop_more entry_xml items i item inside ∙ ap (λ x. read_xml (last_read x) (entry_xml (drop (i + 1) items))) (sym same) ∙ ap (λ s. read_xml s (entry_xml (drop (i + 1) items))) is

-- no items give nothing
pub entry_none : (items : List (Dotted Bits)) (i : ℕ) → length items ≤ i → entry_xml (drop i items) ≡ []
unfolding entry_xml
entry_none items i past = at_drop_all entry_xml items i past
