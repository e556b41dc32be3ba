-- The world of values: an open call is answered by the first call like it that is reached and has an answer. Values
-- that
-- obey all other steps, and whose calls agree, obey their calls too in it.
use Rattle.std.proofs.Common.{◌≡◌, ℕ, suc, Bool, true, false, List, [], ◌∷◌, ◌++◌, map, Option, Some, None, refl}
use Rattle.std.proofs.Common.{sym, ap, ◌∙◌, subst, Contains, ◌⊎◌, inl, inr}
use Rattle.std.specs.Prelude.{nat_eq, if◌then◌else◌}
use Rattle.std.proofs.lemmas.Bool.{and_from, and_parts, eq-eqb, eqb-true}
use Rattle.pp_prog.specs.declared.id.CtorId.{CtorId}
use Rattle.pp_prog.specs.declared.id.FunctionId.{FunctionId}
use Rattle.pp_prog.specs.declared.types.Ctor.{Ctor}
use Rattle.pp_prog.specs.declared.value.Value.{Value}
use Rattle.pp_prog.specs.declared.value.Value.TheVariants.{Bool as Truth}
use Rattle.pp_eval.specs.Equality.{equal, pass_all}
use Rattle.pp_guess_runs.proofs.Tables.{list_self, lists_same}
use Rattle.std.proofs.lemmas.List.Elements.{Contains-append_cases, Contains-append_right}
use Rattle.std.proofs.lemmas.List.{append_assoc}
use Rattle.pp_checks.proofs.Tallest.{at_head, head_or}
use Rattle.pp_guess_steps.proofs.Members.{at_tail, nothing_in}
use Rattle.pp_steps.specs.declared.step.Step.{Step}
use Rattle.pp_steps.specs.declared.step.Step.TheVariants as steps
use Rattle.pp_steps.specs.Guesses.{Standing, standing}
use Rattle.pp_steps.specs.Meaning.{Missing, Obeys, Values, bit, is_answered}
use Rattle.pp_steps_run.specs.Told.{On}
use Rattle.pp_guess_steps.specs.Laws.{Agreed, AreNear, ObeysRest}
use Rattle.pp_guess_steps.specs.OwnWorld.{is_hit, own_answer, own_world}
use Rattle.pp_guess_steps.proofs.PairsBack.{AgreedWith, AllAgreed}
use Rattle.pp_guess_steps.proofs.Rounds.{Paired}

eqb_swap : (a b : ℕ) → nat_eq a b ≡ true → nat_eq b a ≡ true
eqb_swap a b h = eq-eqb b a (sym (eqb-true a b h))

pub same_function : (c d : FunctionId) → nat_eq c.0 d.0 ≡ true → c ≡ d
same_function c d h = let mk : ℕ → FunctionId = λ n. record { 0 = n } in ap mk (eqb-true c.0 d.0 h)

-- ---- any two calls of a list agree

module _ (ctors : List Ctor) (missing : Missing) (ρ : Values) where
  abbrev Agree : Standing → Standing → Type 0
  Agree = Agreed ρ

  agree_self : (c : Standing) → Agree c c
  agree_self c = record { has = λ near wait. refl; result = λ near x y. refl }

  swap : (c d : Standing) → AreNear ρ c d → AreNear ρ d c
  swap c d n = record { first = n.second; second = n.first; args = sym n.args }

  agree_swap : (c d : Standing) → Agree c d → Agree d c
  agree_swap c d h = record {
    has = λ near wait. sym (h.has (swap d c near) (sym wait));
    result = λ near x y. sym (h.result (swap d c near) y x);
  }

  with_one : (c : Standing) (ds : List Standing) → AgreedWith ctors missing ρ c ds → (d : Standing) → Contains ds d
      → nat_eq c.call.callee.0 d.call.callee.0 ≡ true → Agree c d
  with_one c [] h d has e = absurd (nothing_in d has)
  with_one c (x ∷ xs) h d has e =
      by (head_or x d xs has) (λ later. with_one c xs h.1 d later e)
    where
      by : (x ≡ d) ⊎ Contains xs d → (Contains xs d → Agree c d) → Agree c d
      by (inl is) rest = subst (λ z. Agree c z) is
          (h.0 (ap (λ z. nat_eq c.call.callee.0 z.call.callee.0) is ∙ e))
      by (inr later) rest = rest later

  pub two_agree : (cs olds : List Standing) → AllAgreed ctors missing ρ olds cs → (c d : Standing) → Contains cs c
      → Contains (olds ++ cs) d → nat_eq c.call.callee.0 d.call.callee.0 ≡ true → Agree c d
  two_agree [] olds h c d hc hd e = absurd (nothing_in c hc)
  two_agree (x ∷ xs) olds h c d hc hd e =
      by (head_or x c xs hc) (Contains-append_cases olds (x ∷ xs) d hd)
      (λ u v hu hv f. two_agree xs (olds ++ x ∷ []) h.1 u v hu hv f)
    where
      Later : Type 0
      Later = (u v : Standing) → Contains xs u → Contains ((olds ++ x ∷ []) ++ xs) v
          → nat_eq u.call.callee.0 v.call.callee.0 ≡ true → Agree u v

      at_x : Contains ((olds ++ x ∷ []) ++ xs) x
      at_x = subst (λ l. Contains l x) (sym (append_assoc olds (x ∷ []) xs))
          (Contains-append_right olds (x ∷ xs) x (at_head x xs))

      first : x ≡ c → Contains olds d ⊎ Contains (x ∷ xs) d
          → ((u v : Standing) → Contains xs u → Contains ((olds ++ x ∷ []) ++ xs) v
          → nat_eq u.call.callee.0 v.call.callee.0 ≡ true → Agree u v) → Agree c d
      first is (inl old) later = subst (λ z. Agree z d) is (with_one x olds h.0 d old
          (ap (λ z. nat_eq z.call.callee.0 d.call.callee.0) is ∙ e))
      first is (inr new) later = same (head_or x d xs new)
        where
          same : (x ≡ d) ⊎ Contains xs d → Agree c d
          same (inl at) = subst (λ z. Agree c z) (sym is ∙ at) (agree_self c)
          same (inr more) = agree_swap d c (later d c more (subst (λ z. Contains ((olds ++ x ∷ []) ++ xs) z) is at_x)
              (eqb_swap c.call.callee.0 d.call.callee.0 e))

      by : (x ≡ c) ⊎ Contains xs c → Contains olds d ⊎ Contains (x ∷ xs) d
          → ((u v : Standing) → Contains xs u → Contains ((olds ++ x ∷ []) ++ xs) v
          → nat_eq u.call.callee.0 v.call.callee.0 ≡ true → Agree u v) → Agree c d
      by (inl is) place later = first is place later
      by (inr there) place later =
          later c d there (subst (λ l. Contains l d) (sym (append_assoc olds (x ∷ []) xs)) hd) e

-- ---- the world

module _ (ρ : Values) where
  pub record Hit (cs : List Standing) (t : ℕ → Bool) (g : FunctionId) (vs : List Value) (u : Value)
      (d : Standing) : Type 0 where
    pub there : Contains cs d
    pub wait : t d.call.wait ≡ true
    pub callee : d.call.callee ≡ g
    pub args : map ρ d.call.args ≡ vs
    pub reach : On ρ d.call.reach
    pub has : On ρ d.has
    pub value : ρ d.result ≡ u

  pub hit_of : (cs : List Standing) (t : ℕ → Bool) (g : FunctionId) (vs : List Value) (u : Value)
      → own_answer ρ cs t g vs ≡ Some u → (d : Standing) × Hit cs t g vs u d
  hit_of [] t g vs u e = cc
  hit_of (c ∷ cs) t g vs u e = by (is_hit ρ t g vs c) refl e (λ f. hit_of cs t g vs u f)
    where
      by : (b : Bool) → is_hit ρ t g vs c ≡ b → (if b then Some (ρ c.result) else own_answer ρ cs t g vs) ≡ Some u
          → (own_answer ρ cs t g vs ≡ Some u → (d : Standing) × Hit cs t g vs u d) → (d : Standing) × Hit (c ∷ cs) t g
          vs u d
      by true h e rest =
          let a = and_parts (t c.call.wait) _ h in
          let b = and_parts (nat_eq c.call.callee.0 g.0) _ a.1 in
          let p = and_parts (pass_all (map equal (map ρ c.call.args)) vs) _ b.1 in
          let q = and_parts (bit (ρ c.call.reach)) (bit (ρ c.has)) p.1 in (
            c,
            record {
              there = at_head c cs;
              wait = a.0;
              callee = same_function c.call.callee g b.0;
              args = lists_same (map ρ c.call.args) vs p.0;
              reach = q.0;
              has = q.1;
              value = cc;
            },
          )
      by false h e rest =
          let r = rest e in (
            r.0,
            record {
              there = at_tail c r.0 cs (r.1).there;
              wait = (r.1).wait;
              callee = (r.1).callee;
              args = (r.1).args;
              reach = (r.1).reach;
              has = (r.1).has;
              value = (r.1).value;
            },
          )

  -- a call that is reached and has an answer is found
  pub found_of : (cs : List Standing) (t : ℕ → Bool) (c : Standing) → Contains cs c → t c.call.wait ≡ true → On ρ
      c.call.reach → On ρ c.has
      → own_answer ρ cs t c.call.callee (map ρ c.call.args) ≡ None → ⊥
  found_of [] t c there waits reach has e = nothing_in c there
  found_of (x ∷ xs) t c there waits reach has e =
      by (is_hit ρ t c.call.callee (map ρ c.call.args) x) refl e (head_or x c xs there)
      (λ later f. found_of xs t c later waits reach has f)
    where
      self : is_hit ρ t c.call.callee (map ρ c.call.args) c ≡ true
      self = and_from (t c.call.wait) _ waits
          (and_from (nat_eq c.call.callee.0 c.call.callee.0) _ (eq-eqb c.call.callee.0 c.call.callee.0 refl)
          (and_from (pass_all (map equal (map ρ c.call.args)) (map ρ c.call.args)) _ (list_self (map ρ c.call.args))
          (and_from (bit (ρ c.call.reach)) (bit (ρ c.has)) reach has)))

      by : (b : Bool) → is_hit ρ t c.call.callee (map ρ c.call.args) x ≡ b
          → (if b then Some (ρ x.result) else own_answer ρ xs t c.call.callee (map ρ c.call.args)) ≡ None
          → (x ≡ c) ⊎ Contains xs c
          → (Contains xs c → own_answer ρ xs t c.call.callee (map ρ c.call.args) ≡ None → ⊥) → ⊥
      by true h e place rest = cc
      by false h e (inl is) rest =
          let no : true ≡ false =
          sym self ∙ ap (λ z. is_hit ρ t c.call.callee (map ρ c.call.args) z) (sym is) ∙ h in cc
      by false h e (inr later) rest = rest later e

-- ---- calls are obeyed in it

module _ (ctors : List Ctor) (field : CtorId → ℕ → Value) (ρ : Values) (all : List Standing) where
  abbrev mine : Missing
  mine = own_world field ρ all

  module _ (agree : (c d : Standing) → Contains all c → Contains all d → nat_eq c.call.callee.0 d.call.callee.0 ≡ true
      → Agreed ρ c d)
      (truths : (c : Standing) → Contains all c → ρ c.has ≡ Truth (bit (ρ c.has))) where
    same_callee : (c d : Standing) → d.call.callee ≡ c.call.callee → nat_eq c.call.callee.0 d.call.callee.0 ≡ true
    same_callee c d e = eq-eqb c.call.callee.0 d.call.callee.0 (ap (λ g. g.0) (sym e))

    near_to : (c d : Standing) (u : Value) → On ρ c.call.reach
        → Hit ρ all (λ i. nat_eq i c.call.wait) c.call.callee (map ρ c.call.args) u d → AreNear ρ c d
    near_to c d u reach h = record { first = reach; second = h.reach; args = sym h.args }

    has_same : (c d : Standing) (u : Value) → Contains all c → On ρ c.call.reach
        → Hit ρ all (λ i. nat_eq i c.call.wait) c.call.callee (map ρ c.call.args) u d → ρ c.has ≡ ρ d.has
    has_same c d u there reach h = (agree c d there h.there (same_callee c d h.callee)).has (near_to c d u reach h)
        (sym (eqb-true d.call.wait c.call.wait h.wait))

    has_does : (c : Standing) → Contains all c → On ρ c.call.reach
        → ρ c.has ≡ Truth (is_answered (own_answer ρ all (λ i. nat_eq i c.call.wait) c.call.callee (map ρ c.call.args)))
    has_does c there reach = by (own_answer ρ all (λ i. nat_eq i c.call.wait) c.call.callee (map ρ c.call.args)) refl
      where
        missed : (b : Bool) → bit (ρ c.has) ≡ b → own_answer ρ all (λ i. nat_eq i c.call.wait) c.call.callee
            (map ρ c.call.args) ≡ None
            → b ≡ false
        missed true e none = absurd (found_of ρ all (λ i. nat_eq i c.call.wait) c there
            (eq-eqb c.call.wait c.call.wait refl) reach e none)
        missed false e none = refl

        by : (o : Option Value) → own_answer ρ all (λ i. nat_eq i c.call.wait) c.call.callee (map ρ c.call.args) ≡ o
            → ρ c.has ≡ Truth (is_answered o)
        by None e = truths c there ∙ ap Truth (missed (bit (ρ c.has)) refl e)
        by (Some u) e =
            let d = hit_of ρ all (λ i. nat_eq i c.call.wait) c.call.callee (map ρ c.call.args) u e in
            has_same c d.0 u there reach d.1 ∙ truths d.0 (d.1).there ∙ ap Truth (d.1).has

    answer_does : (c : Standing) → Contains all c → On ρ c.call.reach → (u : Value)
        → own_answer ρ all (λ i. nat_eq i c.call.wait) c.call.callee (map ρ c.call.args) ≡ Some u → ρ c.result ≡ u
    answer_does c there reach u e =
        let d = hit_of ρ all (λ i. nat_eq i c.call.wait) c.call.callee (map ρ c.call.args) u e in
        (agree c d.0 there (d.1).there (same_callee c d.0 (d.1).callee)).result (near_to c d.0 u reach d.1)
        (ap bit (has_same c d.0 u there reach d.1) ∙ (d.1).has) (d.1).has ∙ (d.1).value

    abbrev Within : ℕ → List Step → Type 0
    Within k ss = (c : Standing) → Contains (standing k ss) c → Contains all c

    pub obeys_own : (k : ℕ) (ss : List Step) → Within k ss → Paired ss → ObeysRest ctors mine ρ k ss
        → Obeys ctors mine ρ k ss
    obeys_own k [] inside p h = tt
    obeys_own k (steps.HasAnswer c ∷ []) inside p h = absurd p
    obeys_own k (steps.HasAnswer c ∷ steps.Answer d ∷ ss) inside p h =
        let s : Standing = record { call = c; has = k; result = suc k } in
        let there = inside s (at_head s (standing (suc (suc k)) ss)) in (
          λ on. has_does s there on,
          (
            subst (λ z. On ρ z.reach → (u : Value) → own_answer ρ all (λ i. nat_eq i z.wait) z.callee (map ρ z.args)
                ≡ Some u → ρ (suc k) ≡ u)
                p.0 (λ on u e. answer_does s there on u e),
            obeys_own (suc (suc k)) ss (λ z has. inside z (at_tail s z (standing (suc (suc k)) ss) has)) p.1 h.1.1,
          ),
        )
    obeys_own k (steps.HasAnswer c ∷ steps.HasAnswer d ∷ ss) inside p h = absurd p
    obeys_own k (steps.HasAnswer d ∷ steps.Open s ∷ ss) inside p h = absurd p
    obeys_own k (steps.HasAnswer d ∷ steps.Int n ∷ ss) inside p h = absurd p
    obeys_own k (steps.HasAnswer d ∷ steps.Bool b ∷ ss) inside p h = absurd p
    obeys_own k (steps.HasAnswer d ∷ steps.Not a ∷ ss) inside p h = absurd p
    obeys_own k (steps.HasAnswer d ∷ steps.Both a b ∷ ss) inside p h = absurd p
    obeys_own k (steps.HasAnswer d ∷ steps.Choose c a b ∷ ss) inside p h = absurd p
    obeys_own k (steps.HasAnswer d ∷ steps.Unary op a ∷ ss) inside p h = absurd p
    obeys_own k (steps.HasAnswer d ∷ steps.Binary op a b ∷ ss) inside p h = absurd p
    obeys_own k (steps.HasAnswer d ∷ steps.Construct c fields ∷ ss) inside p h = absurd p
    obeys_own k (steps.HasAnswer d ∷ steps.IsCtor c n a ∷ ss) inside p h = absurd p
    obeys_own k (steps.HasAnswer d ∷ steps.CtorField c i a ∷ ss) inside p h = absurd p
    obeys_own k (steps.HasAnswer d ∷ steps.Field a i ∷ ss) inside p h = absurd p
    obeys_own k (steps.HasAnswer d ∷ steps.IsAlike a b ∷ ss) inside p h = absurd p
    obeys_own k (steps.HasAnswer d ∷ steps.GoesDown a b ∷ ss) inside p h = absurd p
    obeys_own k (steps.Answer c ∷ ss) inside p h = absurd p
    obeys_own k (steps.Open s ∷ ss) inside p h = (h.0, obeys_own (suc k) ss inside p h.1)
    obeys_own k (steps.Int n ∷ ss) inside p h = (h.0, obeys_own (suc k) ss inside p h.1)
    obeys_own k (steps.Bool b ∷ ss) inside p h = (h.0, obeys_own (suc k) ss inside p h.1)
    obeys_own k (steps.Not a ∷ ss) inside p h = (h.0, obeys_own (suc k) ss inside p h.1)
    obeys_own k (steps.Both a b ∷ ss) inside p h = (h.0, obeys_own (suc k) ss inside p h.1)
    obeys_own k (steps.Choose c a b ∷ ss) inside p h = (h.0, obeys_own (suc k) ss inside p h.1)
    obeys_own k (steps.Unary op a ∷ ss) inside p h = (h.0, obeys_own (suc k) ss inside p h.1)
    obeys_own k (steps.Binary op a b ∷ ss) inside p h = (h.0, obeys_own (suc k) ss inside p h.1)
    obeys_own k (steps.Construct c fields ∷ ss) inside p h = (h.0, obeys_own (suc k) ss inside p h.1)
    obeys_own k (steps.IsCtor c n a ∷ ss) inside p h = (h.0, obeys_own (suc k) ss inside p h.1)
    obeys_own k (steps.CtorField c i a ∷ ss) inside p h = (h.0, obeys_own (suc k) ss inside p h.1)
    obeys_own k (steps.Field a i ∷ ss) inside p h = (h.0, obeys_own (suc k) ss inside p h.1)
    obeys_own k (steps.IsAlike a b ∷ ss) inside p h = (h.0, obeys_own (suc k) ss inside p h.1)
    obeys_own k (steps.GoesDown a b ∷ ss) inside p h = (h.0, obeys_own (suc k) ss inside p h.1)
