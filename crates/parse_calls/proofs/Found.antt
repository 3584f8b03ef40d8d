-- What the pairs that are left have, after those that were passed.
use Rattle.std.proofs.Common.{◌≡◌, ◌≢◌, ◌+◌, ◌*◌, ◌<◌, ℕ, false, cond, List, Some, None, drop, length, get_or, ap, ◌∙◌, sym}
use Rattle.std.proofs.lemmas.Bool.{ne_eqb}
use Rattle.parse_calls.specs.Lookups.{is_reduced, production_in, target_in}
use Rattle.parse_calls.specs.Pairs.{pairs_of}
use Rattle.parse_calls.specs.declared.places.Counts.{Counts}
use Rattle.parse_calls.proofs.Pairs.{next_pair, no_pair}

-- a pair with another name is passed
pub other_target : (name : ℕ) (xs : List ℕ) (k : ℕ) → 2 * k + 1 < length xs → get_or xs (2 * k) 0 ≢ name → target_in (pairs_of (drop (2 * (k + 1)) xs)) name ≡ target_in (pairs_of (drop (2 * k) xs)) name
other_target name xs k within other =
    let rest = pairs_of (drop (2 * (k + 1)) xs) in
    sym (ap (λ ps. target_in ps name) (next_pair xs k within)
    ∙ ap (λ b. cond b (Some (get_or xs (2 * k + 1) 0)) (target_in rest name)) (ne_eqb (get_or xs (2 * k) 0) name other))

-- at the end there is no target
pub no_target : (name : ℕ) (xs : List ℕ) (k : ℕ) → length xs < 2 * k + 2 → target_in (pairs_of (drop (2 * k) xs)) name ≡ None
no_target name xs k end = ap (λ ps. target_in ps name) (no_pair xs k end)

module _ (numbers : List ℕ) (counts : Counts) (token : ℕ) where
  -- a reduction that is not made is passed
  pub other_production : (xs : List ℕ) (k : ℕ) → 2 * k + 1 < length xs → is_reduced numbers counts token (get_or xs (2 * k) 0, get_or xs (2 * k + 1) 0) ≡ false → production_in numbers counts token (pairs_of (drop (2 * (k + 1)) xs)) ≡ production_in numbers counts token (pairs_of (drop (2 * k) xs))
  other_production xs k within other =
      let rest = pairs_of (drop (2 * (k + 1)) xs) in
      sym (ap (production_in numbers counts token) (next_pair xs k within)
      ∙ ap (λ b. cond b (Some (get_or xs (2 * k) 0)) (production_in numbers counts token rest)) other)

  -- at the end there is no production
  pub no_production : (xs : List ℕ) (k : ℕ) → length xs < 2 * k + 2 → production_in numbers counts token (pairs_of (drop (2 * k) xs)) ≡ None
  no_production xs k end = ap (production_in numbers counts token) (no_pair xs k end)
