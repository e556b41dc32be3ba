-- Steps can be run: for each choice of the open values there are values that obey all steps.
use Rattle.std.proofs.Common.{◌≡◌, ℕ, suc, ◌<◌, List, [], ◌∷◌, map, true, false, refl, sym, ap, ◌∙◌, arith}
use Rattle.std.proofs.Common.{Option, Some, None}
use Rattle.std.specs.Prelude.{nat_eq, not, ◌&&◌, if◌then◌else◌}
use Rattle.pp_prog.specs.declared.types.Ctor.{Ctor}
use Rattle.pp_prog.specs.declared.value.Value.{Value}
use Rattle.pp_prog.specs.declared.value.Value.TheVariants.{Int, Bool as Truth, Tree}
use Rattle.pp_prog.specs.declared.value.Value.TheViews.{out-Value}
use Rattle.pp_eval.specs.Measure.{goes_down, one_sort}
use Rattle.pp_eval.specs.Meaning.{field}
use Rattle.pp_eval.specs.Operators.{unary}
use Rattle.pp_steps.specs.declared.step.OpenCall.{OpenCall}
use Rattle.pp_steps.specs.declared.step.Step.{Step}
use Rattle.pp_steps.specs.declared.step.Step.TheVariants as steps
use Rattle.pp_steps.specs.Meaning.{Does, Missing, Obeys, Values, answer_of, applied, bit, ctor_field, has_ctor}
use Rattle.pp_steps.specs.Meaning.{is_answered, value_or}
use Rattle.pp_steps.specs.Reads.{AllRead, Below, Reads}
use Rattle.pp_steps.proofs.Counting.{less_suc, nat_eq_less, self_less}

abbrev pub set : Values → ℕ → Value → Values
set ρ k v i = if nat_eq i k then v else ρ i

nat_eq_self : (k : ℕ) → nat_eq k k ≡ true
nat_eq_self k = grind arith

pub set_here : (ρ : Values) (k : ℕ) (v : Value) → set ρ k v k ≡ v
set_here ρ k v = rw (nat_eq_self k) refl

pub set_less : (ρ : Values) (k : ℕ) (v : Value) (i : ℕ) → i < k → set ρ k v i ≡ ρ i
set_less ρ k v i h = rw (nat_eq_less i k h) refl

-- the answer, or this value where there is none
abbrev pub answer_or : Value → Option Value → Value
answer_or v None = v
answer_or v (Some u) = u

module _ (ctors : List Ctor) (missing : Missing) (chosen : Values) where
  abbrev pub value : Values → ℕ → Step → Value
  value ρ k (steps.Open s) = chosen k
  value ρ k (steps.Int n) = Int n
  value ρ k (steps.Bool b) = Truth b
  value ρ k (steps.Not a) = Truth (not (bit (ρ a)))
  value ρ k (steps.Both a b) = Truth (bit (ρ a) && bit (ρ b))
  value ρ k (steps.Choose c a b) = if bit (ρ c) then ρ a else ρ b
  value ρ k (steps.Unary op a) = value_or (Truth false) (unary op (ρ a))
  value ρ k (steps.Binary op a b) = value_or (Truth false) (applied op (ρ a) (ρ b))
  value ρ k (steps.Construct c fields) = Tree c (map ρ fields)
  value ρ k (steps.IsCtor c n a) = Truth (has_ctor c n (ρ a))
  value ρ k (steps.CtorField c i a) = ctor_field missing c i (ρ a)
  value ρ k (steps.Field a i) = value_or (Truth false) (field (ρ a) i)
  value ρ k (steps.IsAlike a b) = Truth (one_sort ctors (out-Value (ρ a)) (out-Value (ρ b)))
  value ρ k (steps.GoesDown a b) = Truth (goes_down (ρ a) (ρ b))
  value ρ k (steps.HasAnswer c) = Truth (is_answered (answer_of missing ρ c))
  value ρ k (steps.Answer c) = answer_or (chosen k) (answer_of missing ρ c)

  abbrev pub solved : ℕ → List Step → Values → Values
  solved k [] ρ = ρ
  solved k (s ∷ ss) ρ = solved (suc k) ss (set ρ k (value ρ k s))

  pub solved_keeps : (k : ℕ) (ss : List Step) (ρ : Values) (i : ℕ) → i < k → solved k ss ρ i ≡ ρ i
  solved_keeps k [] ρ i h = refl
  solved_keeps k (s ∷ ss) ρ i h =
      solved_keeps (suc k) ss (set ρ k (value ρ k s)) i (less_suc i k h) ∙ set_less ρ k (value ρ k s) i h

  map_same : (k : ℕ) (ρ σ : Values) (ns : List ℕ) → Below k ns → ((i : ℕ) → i < k → σ i ≡ ρ i) → map σ ns ≡ map ρ ns
  map_same k ρ σ [] b h = refl
  map_same k ρ σ (n ∷ ns) b h = ap (λ v. v ∷ map σ ns) (h n b.0) ∙ ap (λ vs. ρ n ∷ vs) (map_same k ρ σ ns b.1 h)

  -- so does an open call's answer
  answer_same : (k : ℕ) (ρ σ : Values) (c : OpenCall) → Below k c.args → ((i : ℕ) → i < k → σ i ≡ ρ i)
      → answer_of missing ρ c ≡ answer_of missing σ c
  answer_same k ρ σ c b h =
      ap (missing.answer c.wait c.callee c.params c.result) (sym (map_same k ρ σ c.args b h))

  -- a step's value hangs on earlier numbers alone
  does_value : (k : ℕ) (s : Step) (ρ σ : Values) (v : Value) → Reads k s → ((i : ℕ) → i < k → σ i ≡ ρ i)
      → v ≡ value ρ k s → Does ctors missing σ s v
  does_value k (steps.Open s) ρ σ v r h e = tt
  does_value k (steps.Int n) ρ σ v r h e = e
  does_value k (steps.Bool b) ρ σ v r h e = e
  does_value k (steps.Not a) ρ σ v r h e = e ∙ ap (λ w. Truth (not (bit w))) (sym (h a r))
  does_value k (steps.Both a b) ρ σ v r h e = rw (h a r.0, h b r.1) e
  does_value k (steps.Choose c a b) ρ σ v r h e = rw (h c r.0, h a r.1, h b r.2) e
  does_value k (steps.Unary op a) ρ σ v r h e = rw (h a r) e
  does_value k (steps.Binary op a b) ρ σ v r h e = rw (h a r.0, h b r.1) e
  does_value k (steps.Construct c fields) ρ σ v r h e = e ∙ ap (Tree c) (sym (map_same k ρ σ fields r h))
  does_value k (steps.IsCtor c n a) ρ σ v r h e = rw (h a r) e
  does_value k (steps.CtorField c i a) ρ σ v r h e = rw (h a r) e
  does_value k (steps.Field a i) ρ σ v r h e = rw (h a r) e
  does_value k (steps.IsAlike a b) ρ σ v r h e = rw (h a r.0, h b r.1) e
  does_value k (steps.GoesDown a b) ρ σ v r h e = rw (h a r.0, h b r.1) e
  does_value k (steps.HasAnswer c) ρ σ v r h e =
      λ on. e ∙ ap (λ o. Truth (is_answered o)) (answer_same k ρ σ c r.1 h)
  does_value k (steps.Answer c) ρ σ v r h e =
      λ on u is. e ∙ ap (answer_or (chosen k)) (answer_same k ρ σ c r.1 h ∙ is)

  -- open values are the chosen ones
  abbrev pub IsOpen : Values → ℕ → Step → Type 0
  IsOpen ρ k (steps.Open s) = ρ k ≡ chosen k
  IsOpen ρ k _ = Unit {0}

  abbrev pub AllOpen : Values → ℕ → List Step → Type 0
  AllOpen ρ k [] = Unit {0}
  AllOpen ρ k (s ∷ ss) = IsOpen ρ k s × AllOpen ρ (suc k) ss

  open_value : (k : ℕ) (s : Step) (ρ σ : Values) → σ k ≡ value ρ k s → IsOpen σ k s
  open_value k (steps.Open s) ρ σ e = e
  open_value k s ρ σ e = tt

  pub solved_obeys : (k : ℕ) (ss : List Step) (ρ : Values) → AllRead k ss
      → Obeys ctors missing (solved k ss ρ) k ss × AllOpen (solved k ss ρ) k ss
  solved_obeys k [] ρ r = (tt, tt)
  solved_obeys k (s ∷ ss) ρ r =
      let τ = set ρ k (value ρ k s) in
      let σ = solved (suc k) ss τ in
      let more = solved_obeys (suc k) ss τ r.1 in
      let same = λ (i : ℕ) (h : i < k). solved_keeps (suc k) ss τ i (less_suc i k h) ∙ set_less ρ k
      (value ρ k s) i h in
      let here = solved_keeps (suc k) ss τ k (self_less k) ∙ set_here ρ k (value ρ k s) in
      ((does_value k s ρ σ (σ k) r.0 same here, more.0), (open_value k s ρ σ here, more.1))
