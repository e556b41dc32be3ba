-- What it means that the steps of an expression are right, and the forms without branches.
use Rattle.std.proofs.Common.{◌≡◌, ℕ, zero, suc, false, List, [], ◌∷◌, ◌++◌, Option, Some, None, Ok, refl, sym, ap, ◌∙◌}
use Rattle.std.proofs.Common.{subst}
use Rattle.std.specs.Prelude.{slice_get, slice_index_or}
use Rattle.pp_tree.specs.declared.operator.UnaryOp.{UnaryOp}
use Rattle.pp_prog.specs.declared.id.CheckId.{CheckId}
use Rattle.pp_prog.specs.declared.types.Ctor.{Ctor}
use Rattle.pp_prog.specs.declared.value.Value.{Value}
use Rattle.pp_prog.specs.declared.value.Value.TheOpen as layer
use Rattle.pp_prog.specs.declared.value.Value.TheVariants.{Bool as Truth}
use Rattle.pp_prog.specs.declared.value.Value.TheViews.{out-Value}
use Rattle.pp_eval.specs.Meaning.{Frame, Meaning, field, field_in}
use Rattle.pp_eval.specs.Operators.{unary}
use Rattle.pp_eval.specs.Part.{Part, and_then, found}
use Rattle.pp_eval.proofs.Extends.{Covers, same_extends, then_extends}
use Rattle.pp_steps.specs.declared.step.Step.{Step}
use Rattle.pp_steps.specs.declared.step.Step.TheVariants as steps
use Rattle.pp_steps.specs.Meaning.{Missing, Values, value_or}
use Rattle.pp_steps.specs.Compile.{Compiling, one}
use Rattle.pp_steps.specs.Piece.{after, bind, plain}
use Rattle.pp_steps_run.specs.Told.{AreValues, IsMade, IsQuiet, IsTold, IsValue, Off, On}
use Rattle.pp_steps_run.proofs.Lasting.{Lasts, told_then}
use Rattle.pp_steps_run.proofs.Operators.{EndAlike, Ends, unary_ends}
use Rattle.pp_steps_run.proofs.Patterns.{are_more}
use Rattle.pp_steps_run.proofs.Pieces.{made_left, made_right, quiet_bind, quiet_plain}

module _ (ctors : List Ctor) (missing : Missing) (ρ : Values) (asked : Option CheckId)
    (frame : Frame) where
  -- The steps tell what the expression comes to, in a run whose calls end, and one that isn't reached is neither alive
  -- nor failing.
  pub record IsRight (m : Compiling) (part full : Meaning) : Type 0 where
    pub extends : Covers part full
    pub quiet : (k : ℕ) (env : List ℕ) (reach : ℕ) → IsMade ctors missing ρ k (m k env reach) → Off ρ reach
        → IsQuiet ρ (m k env reach)
    pub told : (k : ℕ) (env : List ℕ) (reach : ℕ) → IsMade ctors missing ρ k (m k env reach) → (vs : List Value)
        → On ρ reach → AreValues ρ env vs → Lasts (full frame vs)
        → IsTold ρ asked (IsValue ρ) (m k env reach) (part frame vs)

  -- a step that has the part's value
  pub step_told : (s : Step) (k alive : ℕ) (v : Value) → On ρ alive → ρ k ≡ v
      → IsTold ρ asked (IsValue ρ) (one s k alive) (Ok v)
  step_told s k alive v on is = record { told = (on, tt, is) }

  pub ends_told : (s : Step) (k alive : ℕ) (part : Part Value) → Ends part → On ρ alive
      → ρ k ≡ value_or (Truth false) part → IsTold ρ asked (IsValue ρ) (one s k alive) part
  ends_told s k alive part e on is =
      subst (λ q. IsTold ρ asked (IsValue ρ) (one s k alive) q) (sym e.is)
      (step_told s k alive e.value on (is ∙ ap (value_or (Truth false)) e.is))

  pub ends_alike : (s : Step) (k alive : ℕ) (part other : Part Value) → EndAlike part other → On ρ alive
      → ρ k ≡ value_or (Truth false) other → IsTold ρ asked (IsValue ρ) (one s k alive) part
  ends_alike s k alive part other e on is =
      subst (λ q. IsTold ρ asked (IsValue ρ) (one s k alive) q) (sym e.is)
      (step_told s k alive e.value on (is ∙ ap (value_or (Truth false)) e.other_is))

  -- ---- literals and variables

  pub literal_right : (s : Step) (v : Value) →
      ((k : ℕ) → IsMade ctors missing ρ k (plain {A = ℕ} (s ∷ []) k 0) → ρ k ≡ v)
      → IsRight (λ k env reach. one s k reach) (λ f vs. Ok v) (λ f vs. Ok v)
  literal_right s v is = record {
    extends = λ f vs. refl;
    quiet = λ k env reach h off. quiet_plain ρ (s ∷ []) k reach off;
    told = λ k env reach h vs on are lasts. step_told s k reach v on (is k (record { steps = h.steps }));
  }

  found_at : (env : List ℕ) (vs : List Value) (i reach : ℕ) → On ρ reach → AreValues ρ env vs
      → Lasts (found (slice_get vs i))
      → IsTold ρ asked (IsValue ρ) (plain [] (slice_index_or env i 0) reach) (found (slice_get vs i))
  found_at [] [] i reach on are lasts = absurd (lasts.meant refl)
  found_at [] (v ∷ vs) i reach on are lasts = absurd are
  found_at (n ∷ env) [] i reach on are lasts = absurd are
  found_at (n ∷ env) (v ∷ vs) zero reach on are lasts = record { told = (on, tt, are.0) }
  found_at (n ∷ env) (v ∷ vs) (suc i) reach on are lasts = found_at env vs i reach on are.1 lasts

  pub variable_right : (i : ℕ)
      → IsRight (λ k env reach. plain [] (slice_index_or env i 0) reach) (λ f vs. found (slice_get vs i))
      (λ f vs. found (slice_get vs i))
  variable_right i = record {
    extends = λ f vs. same_extends (found (slice_get vs i));
    quiet = λ k env reach h off. quiet_plain ρ [] (slice_index_or env i 0) reach off;
    told = λ k env reach h vs on are lasts. found_at env vs i reach on are lasts;
  }

  -- ---- one operand

  field_ends : (o : layer.Value-F Value) (i : ℕ) → Lasts (field_in o i) → Ends (field_in o i)
  field_ends (layer.Int n) i h = absurd (h.meant refl)
  field_ends (layer.Bool b) i h = absurd (h.meant refl)
  field_ends (layer.Tree c fields) i h = found_ends (slice_get fields i) h
    where
      found_ends : (o : Option Value) → Lasts (found o) → Ends (found o)
      found_ends None h = absurd (h.meant refl)
      found_ends (Some v) h = record { value = v; is = refl }

  module _ (m : Compiling) (part full : Meaning) (r : IsRight m part full) where
    -- a step of the value
    mapped : (s : ℕ → Step) (go : Value → Part Value) → ((v : Value) → Lasts (go v) → Ends (go v))
        → ((k a : ℕ) (alive : ℕ) → IsMade ctors missing ρ k (one (s a) k alive) → ρ k ≡ value_or (Truth false)
        (go (ρ a)))
        → IsRight (λ k env reach. bind k (m k env reach) (λ n x alive. one (s x) n alive))
        (λ f vs. and_then (part f vs) go) (λ f vs. and_then (full f vs) go)
    mapped s go ends is = record {
      extends = λ f vs. then_extends _ _ _ _ (r.extends f vs) (λ v. same_extends (go v));
      quiet = λ k env reach h off.
          let x = m k env reach in
          quiet_bind ρ x (one (s x.out) (after k x) x.alive)
          (r.quiet k env reach (made_left ctors missing ρ k x (one (s x.out) (after k x) x.alive) h) off)
          (λ dead. quiet_plain ρ _ (after k x) x.alive dead);
      told = λ k env reach h vs on are lasts.
          let x = m k env reach in
          let y = one (s x.out) (after k x) x.alive in
          told_then ρ asked x y (part frame vs) (full frame vs) go go (r.extends frame vs) lasts
          (λ l. r.told k env reach (made_left ctors missing ρ k x y h) vs on are l)
          (λ dead. quiet_plain ρ _ (after k x) x.alive dead)
          (λ v alive out l. ends_told (s x.out) (after k x) x.alive (go v) (ends v l) alive
          (is (after k x) x.out x.alive (made_right ctors missing ρ k x y h) ∙ ap
          (λ u. value_or (Truth false) (go u)) out));
    }

    pub unary_right : (op : UnaryOp)
        → IsRight (λ k env reach. bind k (m k env reach) (λ n x alive. one (steps.Unary op x) n alive))
        (λ f vs. and_then (part f vs) (unary op)) (λ f vs. and_then (full f vs) (unary op))
    unary_right op = mapped (λ x. steps.Unary op x) (unary op) (unary_ends op) (λ k a alive h. h.steps.0)

    pub field_right : (i : ℕ)
        → IsRight (λ k env reach. bind k (m k env reach) (λ n x alive. one (steps.Field x i) n alive))
        (λ f vs. and_then (part f vs) (λ v. field v i)) (λ f vs. and_then (full f vs) (λ v. field v i))
    field_right i = mapped (λ x. steps.Field x i) (λ v. field v i) (λ v l. field_ends (out-Value v) i l)
        (λ k a alive h. h.steps.0)

  -- ---- val

  pub val_right : (m : Compiling) (part full : Meaning) → IsRight m part full → (n : Compiling) (rest all : Meaning)
      → IsRight n rest all
      → IsRight (λ k env reach. bind k (m k env reach) (λ i x alive. n i (env ++ x ∷ []) alive))
      (λ f vs. and_then (part f vs) (λ v. rest f (vs ++ v ∷ [])))
      (λ f vs. and_then (full f vs) (λ v. all f (vs ++ v ∷ [])))
  val_right m part full r n rest all q = record {
    extends = λ f vs. then_extends _ _ _ _ (r.extends f vs) (λ v. q.extends f (vs ++ v ∷ []));
    quiet = λ k env reach h off.
        let x = m k env reach in
        let i = after k x in
        let y = n i (env ++ x.out ∷ []) x.alive in
        quiet_bind ρ x y
        (r.quiet k env reach (made_left ctors missing ρ k x y h) off)
        (λ dead. q.quiet i (env ++ x.out ∷ []) x.alive (made_right ctors missing ρ k x y h) dead);
    told = λ k env reach h vs on are lasts.
        let x = m k env reach in
        let i = after k x in
        let y = n i (env ++ x.out ∷ []) x.alive in
        told_then ρ asked x y (part frame vs) (full frame vs) _ _ (r.extends frame vs) lasts
        (λ l. r.told k env reach (made_left ctors missing ρ k x y h) vs on are l)
        (λ dead. q.quiet i (env ++ x.out ∷ []) x.alive (made_right ctors missing ρ k x y h) dead)
        (λ v alive out l. q.told i (env ++ x.out ∷ []) x.alive (made_right ctors missing ρ k x y h)
        (vs ++ v ∷ []) alive
        (are_more ρ env (x.out ∷ []) vs (v ∷ []) are (out, tt)) l);
  }
