-- Facts on the texts of a report.
use Rattle.std.proofs.Common.{◌≡◌, ◌≢◌, ℕ, ◌++◌, Bool, true, false, List, [], ◌∷◌, map, refl, sym, ap, ◌∙◌, arith, codes, Result, Ok, Err, OnOk, is_ok, String, string_bytes, Option, Some, slice_get}
use Rattle.lalrpop_base.specs.Words.{Bits, rising, no_bits, token_of}
use Rattle.lalrpop_report.proofs.Types.{TerminalString, Token}
use Rattle.lalrpop_collections.proofs.theory.sets.BitLemmas.{rising-bits_of}
use Rattle.lalrpop_report.specs.Words.{tokens_line, tokens_text, tokens_in}
use Rattle.std.specs.List.{flat_map}
use mathlib.Core.Bool.{true≢false}
use Rattle.std.specs.Fmt.{WritesInCalls}
use Rattle.std.proofs.Output.{contents_after_writes}

-- the empty set has no bits
pub no_rising : rising no_bits ≡ []
no_rising = rising-bits_of [] (λ i j l inside. omega arith)

-- if there are tokens, there is a line
pub some_line : (tokens : List Token) → tokens ≢ [] → tokens_line tokens ≡ codes "        lookahead" ++ (tokens_text tokens ++ codes "\n")
some_line [] some = absurd (some refl)
some_line (t ∷ tokens) some = refl

mapped_nil : {A B : Type 0} (f : A → B) (xs : List A) → map f xs ≡ [] → xs ≡ []
mapped_nil f [] none = refl
mapped_nil f (x ∷ xs) none = cc

-- if a set has a bit, its list of tokens is not empty
pub some_tokens : (terminals : List TerminalString) (set : Bits) → rising set ≢ [] → tokens_in terminals set ≢ []
some_tokens terminals set some none = some (mapped_nil (token_of terminals) (rising set) none)

-- what holds after a success holds if there was one
pub on_ok : {T E P : Type 0} → (r : Result T E) → is_ok r ≡ true → OnOk r P → P
on_ok (Ok x) good holds = holds
on_ok (Err e) good holds = absurd (true≢false (sym good))

-- the text has grown by what was written
pub text_after : {A T E : Type 0} (r : Result T E) (old new : String A) (written : List ℕ) → is_ok r ≡ true →
    OnOk r (WritesInCalls (λ (s : String A) (bytes : List ℕ) (t : String A). string_bytes t ≡ string_bytes s ++ bytes) old written new) → string_bytes new ≡ string_bytes old ++ written
text_after r old new written good wrote = contents_after_writes _ string_bytes (λ s bytes t e. e) old written new (on_ok r good wrote)

-- without tokens there is no line
pub no_line : (terminals : List TerminalString) (bits : List ℕ) (told : Bool) → (bits ≢ [] → told ≡ true) → told ≡ false → tokens_line (map (token_of terminals) bits) ≡ []
no_line terminals [] told some none = refl
no_line terminals (b ∷ bits) told some none = absurd (true≢false (sym (some (λ e. cc)) ∙ none))

-- the blocks of the conflicts at some places are those of the conflicts
pub blocks_at_places : {C : Type 0} (block : C → List ℕ) (at : Option C → List ℕ) (conflicts : List C) (places : List ℕ) (own : List C) → ((c : C) → at (Some c) ≡ block c) →
    map (slice_get conflicts) places ≡ map (λ (c : C). Some c) own → flat_map (λ place. at (slice_get conflicts place)) places ≡ flat_map block own
blocks_at_places block at conflicts [] [] each same = refl
blocks_at_places block at conflicts [] (c ∷ own) each same = cc
blocks_at_places block at conflicts (p ∷ places) [] each same = cc
blocks_at_places block at conflicts (p ∷ places) (c ∷ own) each same =
    let here : slice_get conflicts p ≡ Some c = cc in
    let later : map (slice_get conflicts) places ≡ map (λ (d : _). Some d) own = cc in
    ap (λ t. t ++ flat_map (λ place. at (slice_get conflicts place)) places) (ap at here ∙ each c) ∙ ap (λ t. block c ++ t) (blocks_at_places block at conflicts places own each later)
