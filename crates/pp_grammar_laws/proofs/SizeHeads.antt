-- Sizes and offsets of what stands at the head of a declaration.
use Rattle.pp_grammar.specs.Units.{IsAnnotations, IsNames}
use Rattle.pp_grammar.specs.Units.{IsParamList, IsParams, IsTypeParams}
use Rattle.pp_grammar.specs.Units.{empty_list}
use Rattle.pp_grammar.specs.Units.{last_name, last_param, no_annotation}
use Rattle.pp_grammar.specs.Units.{no_list, no_type_params, one_annotation}
use Rattle.pp_grammar.specs.Units.{one_more_name, one_more_param, param_at, param_list}
use Rattle.pp_grammar.specs.Units.{type_params}
use Rattle.pp_grammar_laws.proofs.SizeTypes.{size_break, size_type}
use Rattle.pp_grammar_laws.proofs.Sized.{Ok, Sized, head, tail}
use Rattle.pp_tokens.specs.declared.token.Token.{Token}
use Rattle.pp_tree.specs.Offsets.{ParamOffsets}
use Rattle.pp_tree.specs.Offsets.{TypeOffsets}
use Rattle.pp_tree.specs.Plain.{ParamTree, TypeTree, Word}
use Rattle.std.proofs.Common.{Bool, List, [], arith, ℕ, ◌∷◌}

module _ (text : Word) (n : ℕ) (P : ℕ → Type 0) where
  annotations_no_annotation : (ts : List Token) → Ok n P ts → Sized n P ts ts 0 0 (Unit {0})
  annotations_no_annotation ts ok =
      record { good = tt; left = ok; small = omega (arith, ok.few); quarter = omega (arith, ok.few) }

  annotations_one_annotation : (ts : List Token) (us : List Token) (vs : List Token) (a : Token) (z : Token)
      → (Ok n P ts → Sized n P ts us 0 0 (Unit {0})) → (Ok n P us → Sized n P us vs 0 0 (Unit {0}))
      → Ok n P (a ∷ z ∷ ts) → Sized n P (a ∷ z ∷ ts) vs 0 0 (Unit {0})
  annotations_one_annotation ts us vs a z d1 d2 ok =
      let s1 = d1 (tail n P (tail n P ok)) in
      let s2 = d2 s1.left in
      record {
        good = tt;
        left = s2.left;
        small = omega (arith, s1.small, s2.small, ok.few);
        quarter = omega
            (arith, s1.quarter, s2.quarter, s1.small, s2.small, ok.few);
      }

  names_last_name : (us : List Token) (z : Token) (c : Token) → Ok n P (z ∷ c ∷ us)
      → Sized n P (z ∷ c ∷ us) us 0 0 (Unit {0})
  names_last_name us z c ok =
      record {
        good = tt;
        left = (tail n P (tail n P ok));
        small = omega (arith, ok.few);
        quarter = omega (
          arith,
          ok.few,
        );
      }

  names_one_more_name : (ts : List Token) (us : List Token) (ns : List Word) (z : Token) (c : Token) → (Ok n P ts
      → Sized n P ts us 0 0 (Unit {0})) → Ok n P (z ∷ c ∷ ts) → Sized n P (z ∷ c ∷ ts) us 0 0 (Unit {0})
  names_one_more_name ts us ns z c d1 ok =
      let s1 = d1 (tail n P (tail n P ok)) in
      record {
        good = tt;
        left = s1.left;
        small = omega (arith, s1.small, ok.few);
        quarter = omega (
          arith,
          s1.quarter,
          s1.small,
          ok.few,
        );
      }

  type_params_no_type_params : (ts : List Token) → Ok n P ts → Sized n P ts ts 0 0 (Unit {0})
  type_params_no_type_params ts ok =
      record { good = tt; left = ok; small = omega (arith, ok.few); quarter = omega (arith, ok.few) }

  type_params_type_params : (ts : List Token) (us : List Token) (ns : List Word) (o : Token) → (Ok n P ts
      → Sized n P ts us 0 0 (Unit {0})) → Ok n P (o ∷ ts) → Sized n P (o ∷ ts) us 0 0 (Unit {0})
  type_params_type_params ts us ns o d1 ok =
      let s1 = d1 (tail n P ok) in
      record {
        good = tt;
        left = s1.left;
        small = omega (arith, s1.small, ok.few);
        quarter = omega (
          arith,
          s1.quarter,
          s1.small,
          ok.few,
        );
      }

  params_last_param : (ts : List Token) (us : List Token) (t : TypeTree) (z : Token) (c : Token) (e : Token)
      → (Ok n P ts → Sized n P ts (e ∷ us) 0 0 (TypeOffsets P t)) → Ok n P (z ∷ c ∷ ts)
      → Sized n P (z ∷ c ∷ ts) us 0 0 (ParamOffsets P (param_at text z t ∷ []))
  params_last_param ts us t z c e d1 ok =
      let s1 = d1 (tail n P (tail n P ok)) in
      record {
        good = assumption (head n P ok, head n P ((tail n P ok)), s1.good, head n P s1.left);
        left = (tail n
            P s1.left);
        small = omega (arith, s1.small, ok.few);
        quarter = omega (arith, s1.quarter, s1.small, ok.few);
      }

  params_one_more_param : (ts : List Token) (us : List Token) (vs : List Token) (t : TypeTree) (ps : List
      ParamTree) (z : Token) (c : Token) (e : Token) → (Ok n P ts → Sized n P ts (e ∷ us) 0 0 (TypeOffsets P t))
      → (Ok n P us → Sized n P us vs 0 0 (ParamOffsets P ps)) → Ok n P (z ∷ c ∷ ts)
      → Sized n P (z ∷ c ∷ ts) vs 0 0 (ParamOffsets P (param_at text z t ∷ ps))
  params_one_more_param ts us vs t ps z c e d1 d2 ok =
      let s1 = d1 (tail n P (tail n P ok)) in
      let s2 = d2 (tail n P s1.left) in
      record {
        good = assumption (head n P ok, head n P ((tail n P ok)), s1.good, head n P s1.left, s2.good);
        left
            = s2.left;
        small = omega (arith, s1.small, s2.small, ok.few);
        quarter = omega (
          arith,
          s1.quarter,
          s2.quarter,
          s1.small,
          s2.small,
          ok.few,
        );
      }

  param_list_no_list : (ts : List Token) → Ok n P ts → Sized n P ts ts 0 0 (ParamOffsets P [])
  param_list_no_list ts ok =
      record { good = assumption ok; left = ok; small = omega (arith, ok.few); quarter = omega (arith, ok.few) }

  param_list_empty_list : (us : List Token) (o : Token) (c : Token) → Ok n P (o ∷ c ∷ us)
      → Sized n P (o ∷ c ∷ us) us 0 0 (ParamOffsets P [])
  param_list_empty_list us o c ok =
      record {
        good = assumption (head n P ok, head n P ((tail n P ok)));
        left = (tail n P (tail n P ok));
        small =
            omega (arith, ok.few);
        quarter = omega (arith, ok.few);
      }

  param_list_param_list : (ts : List Token) (us : List Token) (ps : List ParamTree) (o : Token) → (Ok n P ts
      → Sized n P ts us 0 0 (ParamOffsets P ps)) → Ok n P (o ∷ ts) → Sized n P (o ∷ ts) us 0 0 (ParamOffsets P ps)
  param_list_param_list ts us ps o d1 ok =
      let s1 = d1 (tail n P ok) in
      record {
        good = assumption (head n P ok, s1.good);
        left = s1.left;
        small = omega (arith, s1.small, ok.few);
        quarter = omega (arith, s1.quarter, s1.small, ok.few);
      }

  pub size_annotations : {ts us : List Token} → IsAnnotations text ts us → Ok n P ts
      → Sized n P ts us 0 0 (Unit {0})
  size_annotations (no_annotation {ts = ts}) = annotations_no_annotation ts
  size_annotations (one_annotation {ts = ts} {us = us} {vs = vs} a z _ _ _ d1 d2) = annotations_one_annotation ts
      us vs a z (size_break text n P d1) (size_annotations d2)

  pub size_names : {ts us : List Token} {ns : List Word} → IsNames text ts us ns → Ok n P ts
      → Sized n P ts us 0 0 (Unit {0})
  size_names (last_name {us = us} z c _ _) = names_last_name us z c
  size_names (one_more_name {ts = ts} {us = us} {ns = ns} z c _ _ d1) = names_one_more_name ts us ns z c
      (size_names d1)

  pub size_type_params : {ts us : List Token} {ns : List Word} → IsTypeParams text ts us ns → Ok n P ts
      → Sized n P ts us 0 0 (Unit {0})
  size_type_params (no_type_params {ts = ts}) = type_params_no_type_params ts
  size_type_params (type_params {ts = ts} {us = us} {ns = ns} o _ d1) = type_params_type_params ts us ns o
      (size_names d1)

  pub size_params : {ts us : List Token} {ps : List ParamTree} → IsParams text ts us ps → Ok n P ts
      → Sized n P ts us 0 0 (ParamOffsets P ps)
  size_params (last_param {ts = ts} {us = us} {t = t} z c e _ _ d1 _) = params_last_param ts us t z c e (size_type
      text n P d1)
  size_params (one_more_param {ts = ts} {us = us} {vs = vs} {t = t} {ps = ps} z c e _ _ d1 _ d2) =
      params_one_more_param ts us vs t ps z c e (size_type text n P d1) (size_params d2)

  pub size_param_list : {ts us : List Token} {w : Bool} {ps : List ParamTree} → IsParamList text ts us w ps
      → Ok n P ts → Sized n P ts us 0 0 (ParamOffsets P ps)
  size_param_list (no_list {ts = ts}) = param_list_no_list ts
  size_param_list (empty_list {us = us} o c _ _) = param_list_empty_list us o c
  size_param_list (param_list {ts = ts} {us = us} {ps = ps} o _ d1) = param_list_param_list ts us ps o (size_params
      d1)
