-- Several conditions as one: what is so of each, and of `a && b` where it is so of a and of b, is so of the whole.
use Rattle.std.proofs.Common.{◌≡◌, ℕ, zero, suc, ◌≤◌, ◌<◌, true, List, [], ◌∷◌, ◌++◌, map, length, Option, Some, None}
use Rattle.std.proofs.Common.{is_some, refl, sym, ap, ◌∙◌, append_assoc, arith}
use Rattle.std.specs.Option.{option_map}
use Rattle.std.specs.Prelude.{slice_get}
use Rattle.std.proofs.lemmas.List.{append-nil, length-map}
use Rattle.pp_list.specs.Joined.{joined, or_none}
use Rattle.pp_tree.specs.declared.operator.BinaryOp.TheVariants.{AndAlso}
use Rattle.pp_prog.specs.declared.expr.Expr.{Expr}
use Rattle.pp_prog.specs.declared.expr.Expr.TheVariants.{Binary}
use Rattle.pp_translation.specs.Functions.{as_one, in_pairs, paired}

abbrev first : List Expr → Option Expr
first es = slice_get es 0

-- ---- how many are left

pairs_no_more : (es : List Expr) → length (in_pairs es) ≤ length es
pairs_no_more [] = omega arith
pairs_no_more (e ∷ []) = omega arith
pairs_no_more (a ∷ b ∷ es) = let h = pairs_no_more es in omega arith

pub pairs_less : (es : List Expr) → 2 ≤ length es → length (in_pairs es) < length es
pairs_less [] h = absurd (omega (arith, h))
pairs_less (e ∷ []) h = absurd (omega (arith, h))
pairs_less (a ∷ b ∷ es) h = let few = pairs_no_more es in omega arith

pairs_fewer : (n : ℕ) (es : List Expr) → length es ≤ suc (suc n) → length (in_pairs es) ≤ suc n
pairs_fewer n [] h = omega arith
pairs_fewer n (e ∷ []) h = omega arith
pairs_fewer n (a ∷ b ∷ es) h = let few = pairs_no_more es in omega arith

one_left : (n : ℕ) (es : List Expr) → length es ≤ suc n → length (paired n es) ≤ 1
one_left zero es h = omega arith
one_left (suc n) es h = one_left n (in_pairs es) (pairs_fewer n es h)

-- further rounds change nothing once one is left
rounds_enough : (n m : ℕ) (es : List Expr) → length es ≤ suc n → length es ≤ suc m → paired n es ≡ paired m es
rounds_enough zero zero es h k = refl
rounds_enough zero (suc m) [] h k = rounds_enough zero m [] (omega arith) (omega arith)
rounds_enough zero (suc m) (e ∷ []) h k = rounds_enough zero m (e ∷ []) (omega arith) (omega arith)
rounds_enough zero (suc m) (a ∷ b ∷ es) h k = absurd (omega (arith, h))
rounds_enough (suc n) zero [] h k = rounds_enough n zero [] (omega arith) (omega arith)
rounds_enough (suc n) zero (e ∷ []) h k = rounds_enough n zero (e ∷ []) (omega arith) (omega arith)
rounds_enough (suc n) zero (a ∷ b ∷ es) h k = absurd (omega (arith, k))
rounds_enough (suc n) (suc m) es h k = rounds_enough n m (in_pairs es) (pairs_fewer n es h) (pairs_fewer m es k)

-- conditions in pairs are the same condition
pub pairs_as_one : (es : List Expr) → as_one (in_pairs es) ≡ as_one es
pairs_as_one [] = refl
pairs_as_one (e ∷ es) =
    let few = pairs_no_more (e ∷ es) in
    ap first (rounds_enough (length (in_pairs (e ∷ es))) (length es) (in_pairs (e ∷ es)) (omega arith) (omega arith))

first_some : (n : ℕ) (e : Expr) (es : List Expr) → is_some (first (paired n (e ∷ es))) ≡ true
first_some zero e es = refl
first_some (suc n) e [] = first_some n e []
first_some (suc n) a (b ∷ es) = first_some n (Binary AndAlso a b None) (in_pairs es)

-- there is one where there is any
pub some_as_one : (e : Expr) (es : List Expr) → is_some (as_one (e ∷ es)) ≡ true
some_as_one e es = first_some (suc (length es)) e es

-- ---- what is listed of expressions, of those of `a && b` first

module _ {A : Type 0} (f : Expr → List A) (both : (a b : Expr) → f (Binary AndAlso a b None) ≡ f a ++ f b) where
  pairs_joined : (es : List Expr) → joined (map f (in_pairs es)) ≡ joined (map f es)
  pairs_joined [] = refl
  pairs_joined (e ∷ []) = refl
  pairs_joined (a ∷ b ∷ es) =
      ap (λ (l : List A). l ++ joined (map f (in_pairs es))) (both a b)
      ∙ ap (λ (l : List A). f a ++ f b ++ l) (pairs_joined es)
      ∙ append_assoc (f a) (f b) (joined (map f es))

  paired_joined : (n : ℕ) (es : List Expr) → joined (map f (paired n es)) ≡ joined (map f es)
  paired_joined zero es = refl
  paired_joined (suc n) es = paired_joined n (in_pairs es) ∙ pairs_joined es

  first_joined : (es : List Expr) → length es ≤ 1 → or_none (option_map f (first es)) ≡ joined (map f es)
  first_joined [] h = refl
  first_joined (e ∷ []) h = sym (append-nil (f e))
  first_joined (a ∷ b ∷ es) h = absurd (omega (arith, h))

  -- of the whole is listed what is listed of each
  pub as_one_joined : (es : List Expr) → or_none (option_map f (as_one es)) ≡ joined (map f es)
  as_one_joined es = first_joined (paired (length es) es) (one_left (length es) es (omega arith))
      ∙ paired_joined (length es) es

-- ---- what is made of expressions, of `a && b` the `&&` of what is made of both

module _ (g : Expr → Expr) (both : (a b : Expr) → g (Binary AndAlso a b None) ≡ Binary AndAlso (g a) (g b) None) where
  pairs_of_map : (es : List Expr) → map g (in_pairs es) ≡ in_pairs (map g es)
  pairs_of_map [] = refl
  pairs_of_map (e ∷ []) = refl
  pairs_of_map (a ∷ b ∷ es) =
      ap (λ (x : Expr). x ∷ map g (in_pairs es)) (both a b)
      ∙ ap (λ (l : List Expr). Binary AndAlso (g a) (g b) None ∷ l) (pairs_of_map es)

  paired_of_map : (n : ℕ) (es : List Expr) → map g (paired n es) ≡ paired n (map g es)
  paired_of_map zero es = refl
  paired_of_map (suc n) es = paired_of_map n (in_pairs es) ∙ ap (paired n) (pairs_of_map es)

  first_of_map : (es : List Expr) → option_map g (first es) ≡ first (map g es)
  first_of_map [] = refl
  first_of_map (e ∷ es) = refl

  -- of the whole is made the whole of what is made of each
  pub as_one_of_map : (es : List Expr) → option_map g (as_one es) ≡ as_one (map g es)
  as_one_of_map es =
      first_of_map (paired (length es) es) ∙ ap first (paired_of_map (length es) es)
      ∙ ap (λ (n : ℕ). first (paired n (map g es))) (sym (length-map es g))

-- ---- expressions that lead from state to state

module _ {S : Type 0} (Leads : Expr → S → S → Type 0) where
  -- each leads to the state from which the next one leads
  pub data Chain : List Expr → S → S → Type 0 where
    none_leads : {s : S} → Chain [] s s
    one_leads : {e : Expr} {es : List Expr} {s t u : S} → Leads e s t → Chain es t u → Chain (e ∷ es) s u

  pub chain_push : {e : Expr} {es : List Expr} {s t u : S} → Chain es s t → Leads e t u → Chain (es ++ e ∷ []) s u
  chain_push none_leads last = one_leads last none_leads
  chain_push (one_leads l c) last = one_leads l (chain_push c last)

  -- where there is none, the state stays
  abbrev pub LeadsIf : Option Expr → S → S → Type 0
  LeadsIf None s u = s ≡ u
  LeadsIf (Some e) s u = Leads e s u

  first_leads : {es : List Expr} {s u : S} → length es ≤ 1 → Chain es s u → LeadsIf (first es) s u
  first_leads h none_leads = refl
  first_leads h (one_leads l none_leads) = l
  first_leads h (one_leads l (one_leads m c)) = absurd (omega (arith, h))

  module _ (both : (a b : Expr) (s t u : S) → Leads a s t → Leads b t u → Leads (Binary AndAlso a b None) s u) where
    pairs_lead : {es : List Expr} {s u : S} → Chain es s u → Chain (in_pairs es) s u
    pairs_lead none_leads = none_leads
    pairs_lead (one_leads l none_leads) = one_leads l none_leads
    pairs_lead (one_leads l (one_leads m c)) = one_leads (both _ _ _ _ _ l m) (pairs_lead c)

    paired_lead : (n : ℕ) {es : List Expr} {s u : S} → Chain es s u → Chain (paired n es) s u
    paired_lead zero c = c
    paired_lead (suc n) c = paired_lead n (pairs_lead c)

    -- the whole leads from the first state to the last
    pub as_one_leads : {es : List Expr} {s u : S} → Chain es s u → LeadsIf (as_one es) s u
    as_one_leads {es} c = first_leads (one_left (length es) es (omega arith)) (paired_lead (length es) c)
