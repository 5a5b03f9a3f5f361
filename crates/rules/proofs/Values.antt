-- A list of a rule's values holds the rule at each index, so two rules with one list agree below its length.
use mathlib.Core.Path.{◌≡◌, ◌∙◌, ap, sym}
use mathlib.Core.List.{List}
use Prim.Native.Nat.{ℕ, zero, suc, ◌+◌, ◌<◌}
use native.Mathlib.Nat.{add-zero, zero-add, add-suc, suc-add, le_of_suc-le-suc, not-suc-le-zero}
use lib.ListN.{get_or}
use Rattle.rules.specs.Addresses.{values}

module _ {T : Type 0} where
  pub get_or-values : (f : ℕ → T) (n i k : ℕ) (d : T) → k < n → get_or (values f i n) k d ≡ f (i + k)
  get_or-values f zero i k d h = absurd (not-suc-le-zero h)
  get_or-values f (suc n) i zero d h = ap f (sym (add-zero i))
  get_or-values f (suc n) i (suc k) d h =
      get_or-values f n (suc i) k d (le_of_suc-le-suc h) ∙ ap f (suc-add i k ∙ sym (add-suc i k))

  -- a table that is the list of a rule's values follows the rule
  pub entry : (f : ℕ → T) (xs : List T) (n : ℕ) → xs ≡ values f 0 n → (k : ℕ) (d : T) → k < n → get_or xs k d ≡ f k
  entry f xs n e k d h = ap (λ (l : List T). get_or l k d) e ∙ get_or-values f n 0 k d h ∙ ap f (zero-add k)

  -- two rules with the same values from i on agree there
  pub agree : (f g : ℕ → T) (i n : ℕ) → values f i n ≡ values g i n → (k : ℕ) → k < n → f (i + k) ≡ g (i + k)
  agree f g i n e k h =
      sym (get_or-values f n i k (f i) h) ∙ ap (λ (l : List T). get_or l k (f i)) e ∙ get_or-values g n i k (f i) h
