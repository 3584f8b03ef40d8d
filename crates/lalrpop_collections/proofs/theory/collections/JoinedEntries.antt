-- Entries of a map with lookaheads, as entries with the meanings of the lookaheads.
use Rattle.std.proofs.Common.{◌≡◌, ◌≢◌, List, [], ◌∷◌, ◌++◌, refl, sym, ◌∙◌, ap, subst, Bool, true, false, Result, Ok, Err, IfOk}
use Rattle.std.specs.Prelude.{MatchBool, OnOk}
use Rattle.std.specs.Map.{keys_of}
use Rattle.std.proofs.lemmas.List.{map-append}
use Rattle.lalrpop_collections.specs.Words.{Bits, join, AllDiffer, IsJoinedAt, readings}
use Rattle.lalrpop_collections.specs.lists.Entries.IsJoinedAt.{fresh as join_fresh, known as join_known}
use Rattle.lalrpop_collections.proofs.theory.lists.Updates.{IsInserted, IsReplaced}

-- a fact holds of a call that succeeded
pub on_ok : {T E A : Type 0} (r : Result T E) → A → OnOk r A
on_ok (Ok x) a = a
on_ok (Err e) a = tt

-- a fact of a call that succeeded, and a fact of its result, give a third one
pub where_ok : {E A : Type 0} {B C : Bool → Type 0} (r : Result Bool E) → OnOk r A → IfOk r B → ((told : Bool) → A → B told → C told) → IfOk r C
where_ok (Ok told) a b f = f told a b
where_ok (Err e) a b f = tt

module _ {L : Type 0} (meaning : L → Bits) where
  told_by : ((a b : L) → meaning a ≡ meaning b → a ≡ b) → (told : Bool) (s w : L) (b : Bits) → meaning w ≡ b → MatchBool told (w ≢ s) (w ≡ s) → MatchBool told (b ≢ meaning s) (b ≡ meaning s)
  told_by same true s w b e m = λ h. m (same w s (e ∙ h))
  told_by same false s w b e m = sym e ∙ ap meaning m

  -- ---- entries
  module _ {K : Type 0} where
    pub readings_keys : (es : List (K × L)) → keys_of (readings meaning es) ≡ keys_of es
    readings_keys [] = refl
    readings_keys (e ∷ es) = ap (λ (ks : List K). e.0 ∷ ks) (readings_keys es)

    pub readings_differ : (es : List (K × L)) → AllDiffer (keys_of es) → AllDiffer (keys_of (readings meaning es))
    readings_differ es d = subst AllDiffer (sym (readings_keys es)) d

    abbrev read : K × L → K × Bits
    read e = (e.0, meaning e.1)

    read_midst : (front back es : List (K × L)) (e : K × L) → es ≡ front ++ e ∷ back → readings meaning es ≡ readings meaning front ++ (e.0, meaning e.1) ∷ readings meaning back
    read_midst front back es e same = ap (readings meaning) same ∙ map-append read front (e ∷ back)

    -- one entry more
    pub joined_fresh : (k : K) (tokens : L) (old new : List (K × L)) → IsInserted k tokens old new → IsJoinedAt k (meaning tokens) true (readings meaning old) (readings meaning new)
    joined_fresh k tokens old new i = join_fresh (readings meaning i.front) (readings meaning i.back) (ap (readings meaning) i.before ∙ map-append read i.front i.back) (read_midst i.front i.back new (k, tokens) i.after) refl

    -- a lookahead is replaced by the one to which another was joined
    pub joined_known : ((a b : L) → meaning a ≡ meaning b → a ≡ b) → (told : Bool) (k : K) (tokens s w : L) (old new : List (K × L)) → meaning w ≡ join (meaning s) (meaning tokens) → MatchBool told (w ≢ s) (w ≡ s) → IsReplaced k s w old new → IsJoinedAt k (meaning tokens) told (readings meaning old) (readings meaning new)
    joined_known same told k tokens s w old new e t i =
        join_known (readings meaning i.front) (readings meaning i.back) (meaning s) (read_midst i.front i.back old (k, s) i.before)
        (read_midst i.front i.back new (k, w) i.after ∙ ap (λ (b : Bits). readings meaning i.front ++ (k, b) ∷ readings meaning i.back) e)
        (told_by same told s w (join (meaning s) (meaning tokens)) e t)
