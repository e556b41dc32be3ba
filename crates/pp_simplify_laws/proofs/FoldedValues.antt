-- Values that obey the old steps obey the folded ones.
use Rattle.std.proofs.Common.{◌≡◌, ℕ, ◌+◌, Bool, true, false, List, [], ◌∷◌, length, map, slice_get, Some}
use Rattle.std.proofs.Common.{refl, sym, ap, ◌∙◌, subst, inl, inr, arith}
use Rattle.std.specs.Prelude.{if◌then◌else◌}
use Rattle.std.proofs.lemmas.Bool.{eq-eqb}
use Rattle.std.proofs.lemmas.Option.{slice_get-map}
use Rattle.std.specs.Option.{option_map}
use Rattle.pp_prog.specs.declared.id.CtorId.{CtorId}
use Rattle.pp_prog.specs.declared.types.Ctor.{Ctor}
use Rattle.pp_prog.specs.declared.value.Value.{Value}
use Rattle.pp_prog.specs.declared.value.Value.TheVariants.{Tree, outs-Tree}
use Rattle.pp_eval.specs.Part.{found}
use Rattle.pp_steps.proofs.Counting.{zero_plus}
use Rattle.pp_steps.specs.declared.step.Step.{Step}
use Rattle.pp_steps.specs.declared.step.Step.TheVariants as steps
use Rattle.pp_steps.specs.Compile.{number_or}
use Rattle.pp_steps.specs.Meaning.{Does, Missing, Obeys, Values, bit, ctor_field, ctor_field_in, value_or}
use Rattle.pp_steps.specs.Reads.{AllRead}
use Rattle.pp_simplify.specs.Folded.{Folding, folded, folded_from, next, source}
use Rattle.pp_simplify.specs.Names.{named}
use Rattle.pp_simplify.specs.Operands.{Each, operands, renamed}
use Rattle.pp_simplify.proofs.Naming.{IsSource, named_push, source_or}
use Rattle.pp_simplify.proofs.Turns.{Reading, push_length, reading_next}
use Rattle.pp_simplify_laws.specs.Laws.{AgreeFolded}
use Rattle.pp_simplify_laws.proofs.Folds.{folded_does, obeys_push, value_of}
use Rattle.pp_simplify_laws.proofs.Forms.{does_renamed}

pub each_all : (P : ℕ → Type 0) (ns : List ℕ) → ((a : ℕ) → P a) → Each P ns
each_all P [] all = tt
each_all P (n ∷ ns) all = (all n, each_all P ns all)

module _ (ctors : List Ctor) (missing : Missing) (ρ : Values) where
  abbrev Agrees : Folding → Type 0
  Agrees f = AgreeFolded ctors missing ρ f

  same_choice : (b : Bool) (v : Value) → (if b then v else v) ≡ v
  same_choice true v = refl
  same_choice false v = refl

  -- the field of what was made
  field_made : (c d : CtorId) (i m : ℕ) (fields : List ℕ) (u : Value) → c.0 ≡ d.0 → slice_get fields i ≡ Some m
      → u ≡ Tree d (map ρ fields) → ctor_field missing c i u ≡ ρ m
  field_made c d i m fields u same at is =
      let there : slice_get (map ρ fields) i ≡ Some (ρ m) =
      slice_get-map ρ fields i ∙ ap (option_map ρ) at in
      ap (ctor_field missing c i) is ∙ ap (ctor_field_in (missing.field c i) c i) (outs-Tree d (map ρ fields))
      ∙ ap (λ b. if b then value_or (missing.field c i) (found (slice_get (map ρ fields) i)) else missing.field c i)
      (eq-eqb c.0 d.0 same)
      ∙ ap (λ o. value_or (missing.field c i) (found o)) there

  -- a step has the value of its source
  source_value : (news : List Step) → Obeys ctors missing ρ 0 news → (t : Step) (m : ℕ) (v : Value)
      → Does ctors missing ρ t v → IsSource news t m → ρ m ≡ v
  source_value news obeys t m v does (inl h) =
      let is : v ≡ (if bit (ρ h.test) then ρ m else ρ m) = subst (λ x. Does ctors missing ρ x v) h.is does in
      sym (is ∙ same_choice (bit (ρ h.test)) (ρ m))
  source_value news obeys t m v does (inr h) =
      let is : v ≡ ctor_field missing h.ctor h.place (ρ h.operand) = subst (λ x. Does ctors missing ρ x v) h.is does in
      sym (is ∙ field_made h.ctor h.made h.place m h.fields (ρ h.operand) h.same h.there
      (value_of ctors missing ρ news obeys h.operand (steps.Construct h.made h.fields) h.at))

  -- what stands in the place of a step does the same
  pub next_does : (f : Folding) (s : Step) (v : Value) → Agrees f → Does ctors missing ρ s v
      → Does ctors missing ρ (folded f.steps (renamed (named f.names) s)) v
  next_does f s v h does =
      folded_does ctors missing ρ f.steps h.obeys (renamed (named f.names) s) v
      (does_renamed (named f.names) ctors missing ρ ρ s v
      (each_all (λ a. ρ (named f.names a) ≡ ρ a) (operands s) h.same) does)

  pub agrees_next : (f : Folding) (s : Step) → Reading f → Agrees f → Does ctors missing ρ s (ρ (length f.steps))
      → Agrees (next f s)
  agrees_next f s reading h does =
      let k = length f.steps in
      let t = folded f.steps (renamed (named f.names) s) in
      let is = next_does f s (ρ k) h does in
      record {
        obeys = obeys_push ctors missing ρ 0 f.steps t h.obeys
            (subst (λ n. Does ctors missing ρ t (ρ n)) (sym (zero_plus k)) is);
        same = named_push (λ i n. ρ n ≡ ρ i) f.names (source f.steps t) h.same
            (subst (λ n. ρ (number_or n (source f.steps t)) ≡ ρ n) (sym reading.many)
            (source_or f.steps (λ n. ρ n ≡ ρ k) k t refl
            (λ n o. source_value f.steps h.obeys t n (ρ k) is o)));
      }

  pub agrees_from : (f : Folding) (ss : List Step) → Reading f → AllRead (length f.steps) ss → Agrees f
      → Obeys ctors missing ρ (length f.steps) ss → Agrees (folded_from f ss)
  agrees_from f [] reading reads h obeys = h
  agrees_from f (s ∷ ss) reading reads h obeys =
      let next_many = sym (push_length f.steps (folded f.steps (renamed (named f.names) s))) in
      agrees_from (next f s) ss (reading_next f s reading reads.0)
      (subst (λ n. AllRead n ss) next_many reads.1) (agrees_next f s reading h obeys.0)
      (subst (λ n. Obeys ctors missing ρ n ss) next_many obeys.1)
