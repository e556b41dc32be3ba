-- Sizes and offsets of declarations and imports.
use Rattle.pp_grammar.specs.Units.{IsClass, IsDef, IsModified}
use Rattle.pp_grammar.specs.Units.{IsParent, Modifiers, case_object}
use Rattle.pp_grammar.specs.Units.{class_decl, class_of, def_of}
use Rattle.pp_grammar.specs.Units.{no_modifier, no_parent, one_modifier}
use Rattle.pp_grammar.specs.Units.{parent}
use Rattle.pp_grammar.specs.Units.{root_or_other}
use Rattle.pp_grammar.specs.Words.{word}
use Rattle.pp_grammar_laws.proofs.SizeBodies.{size_body}
use Rattle.pp_grammar_laws.proofs.SizeTypes.{size_type}
use Rattle.pp_grammar_laws.proofs.Sized.{Ok, Sized, head, tail}
use Rattle.pp_tokens.specs.declared.token.Token.{Token}
use Rattle.pp_tree.specs.Count.{DeclFewCases, FewCases, ListFewCases, PostFewCases, decl_nodes, list_nodes, nodes}
use Rattle.pp_tree.specs.Count.{post_nodes}
use Rattle.pp_tree.specs.Offsets.{ClassOffsets, DeclOffsets, ListOffsets, Offsets, ParamOffsets, PostOffsets}
use Rattle.pp_tree.specs.Offsets.{TypeOffsets, WrittenOffsets}
use Rattle.pp_tree.specs.Plain.{ClassTree, DeclTree, ParamTree, PostTree, Tree, TypeTree, Word, ctor, def}
use Rattle.std.proofs.Common.{Bool, List, None, Option, Some, [], arith, false, refl, true, ℕ, ◌+◌, ◌∷◌, ◌≡◌}
use Rattle.pp_grammar_laws.proofs.SizeHeads.{size_annotations, size_param_list, size_type_params}

module _ (text : Word) (n : ℕ) (P : ℕ → Type 0) where
  root_good : (ps : List ParamTree) (q : Option TypeTree) (c : ClassTree) → ClassOffsets P c
      → DeclOffsets P (root_or_other ps q c) × DeclFewCases n (root_or_other ps q c) × (decl_nodes (root_or_other
      ps q c) ≡ 0)
  root_good [] None c g = (g, tt, refl)
  root_good [] (Some t) c g = (g, tt, refl)
  root_good (p ∷ ps) q c g = (g, tt, refl)

  class_good : (sealed case trait : Bool) (c : ClassTree) → ClassOffsets P c
      → DeclOffsets P (class_decl sealed case trait c) × DeclFewCases n (class_decl sealed case trait c) ×
      (decl_nodes (class_decl sealed case trait c) ≡ 0)
  class_good true true true c g = (g, tt, refl)
  class_good true true false c g = (g, tt, refl)
  class_good false true true c g = (g, tt, refl)
  class_good false true false c g = (g, tt, refl)
  class_good true false trait c g = root_good c.fields c.parent c g
  class_good false false trait c g = (g, tt, refl)

  def_def_of : (ts : List Token) (us : List Token) (vs : List Token) (ws : List Token) (xs : List Token) (ys : List
      Token) (tparams : List Word) (listed : Bool) (params : List ParamTree) (result : TypeTree) (pre : List Tree)
      (ms : List Tree) (body : Tree) (post : Option PostTree) (d : Token) (z : Token) (c : Token) (q : Token)
      → (Ok n P ts → Sized n P ts (d ∷ z ∷ us) 0 0 (Unit {0})) → (Ok n P us → Sized n P us vs 0 0 (Unit {0}))
      → (Ok n P vs → Sized n P vs (c ∷ ws) 0 0 (ParamOffsets P params)) → (Ok n P ws
      → Sized n P ws (q ∷ xs) 0 0 (TypeOffsets P result)) → (Ok n P xs → Sized n P xs ys (list_nodes pre +
      list_nodes ms + nodes body + post_nodes post) 0 (ListOffsets P pre × ListOffsets P ms × Offsets P body ×
      PostOffsets P post × ListFewCases n pre × ListFewCases n ms × FewCases n body × PostFewCases n post))
      → Ok n P ts → Sized n P ts ys (decl_nodes (def (record {
        at = z.from;
        name = word text z;
        type_params =
            tparams;
        params = params;
        list = listed;
        result = result;
        pre = pre;
        measure = ms;
        body = body;
        post = post;
      })) + 1) 0 (DeclOffsets P (def (record {
        at = z.from;
        name = word text z;
        type_params = tparams;
        params =
            params;
        list = listed;
        result = result;
        pre = pre;
        measure = ms;
        body = body;
        post = post;
      })) × DeclFewCases
      n (def (record {
        at = z.from;
        name = word text z;
        type_params = tparams;
        params = params;
        list = listed;
        result = result;
        pre = pre;
        measure = ms;
        body = body;
        post = post;
      })))
  def_def_of ts us vs ws xs ys tparams listed params result pre ms body post d z c q d1 d2 d3 d4 d5 ok =
      let s1 = d1 ok in
      let s2 = d2 (tail n P (tail n P s1.left)) in
      let s3 = d3 s2.left in
      let s4 = d4 (tail n P s3.left) in
      let s5 = d5 (tail n P s4.left) in
      record {
        good = assumption (
          s1.good,
          head n P s1.left,
          head n P ((tail n P s1.left)),
          s2.good,
          s3.good,
          head
              n P s3.left,
          s4.good,
          head n P s4.left,
          s5.good,
        );
        left = s5.left;
        small = omega (
          arith,
          s1.small,
          s2.small,
          s3.small,
          s4.small,
          s5.small,
          ok.few,
        );
        quarter = omega (
          arith,
          s1.quarter,
          s2.quarter,
          s3.quarter,
          s4.quarter,
          s5.quarter,
          s1.small,
          s2.small,
          s3.small,
          s4.small,
          s5.small,
          ok.few,
        );
      }

  modified_no_modifier : (ts : List Token) (m : Modifiers) → Ok n P ts → Sized n P ts ts 0 0 (Unit {0})
  modified_no_modifier ts m ok =
      record { good = tt; left = ok; small = omega (arith, ok.few); quarter = omega (arith, ok.few) }

  modified_one_modifier : (ts : List Token) (us : List Token) (m : Modifiers) (z : Modifiers) (k : Modifiers) (t :
      Token) → (Ok n P ts → Sized n P ts us 0 0 (Unit {0})) → Ok n P (t ∷ ts) → Sized n P (t ∷ ts) us 0 0 (Unit {0})
  modified_one_modifier ts us m z k t d1 ok =
      let s1 = d1 (tail n P ok) in
      record {
        good = tt;
        left = s1.left;
        small = omega (arith, s1.small, ok.few);
        quarter = omega (
          arith,
          s1.quarter,
          s1.small,
          ok.few,
        );
      }

  parent_no_parent : (ts : List Token) → Ok n P ts → Sized n P ts ts 0 0 (WrittenOffsets P None)
  parent_no_parent ts ok =
      record { good = assumption ok; left = ok; small = omega (arith, ok.few); quarter = omega (arith, ok.few) }

  parent_parent : (ts : List Token) (us : List Token) (t : TypeTree) (x : Token) → (Ok n P ts
      → Sized n P ts us 0 0 (TypeOffsets P t)) → Ok n P (x ∷ ts) → Sized n P (x ∷ ts) us 0 0 (WrittenOffsets P
      (Some t))
  parent_parent ts us t x d1 ok =
      let s1 = d1 (tail n P ok) in
      record {
        good = assumption (head n P ok, s1.good);
        left = s1.left;
        small = omega (arith, s1.small, ok.few);
        quarter = omega (arith, s1.quarter, s1.small, ok.few);
      }

  class_case_object : (ts : List Token) (us : List Token) (vs : List Token) (t : TypeTree) (c : Token) (k : Token)
      (z : Token) (x : Token) → (Ok n P ts → Sized n P ts (c ∷ k ∷ z ∷ x ∷ us) 0 0 (Unit {0})) → (Ok n P us
      → Sized n P us vs 0 0 (TypeOffsets P t)) → Ok n P ts → Sized n P ts vs (decl_nodes (ctor (record {
        at =
            z.from;
        name = word text z;
        params = [];
        fields = [];
        parent = Some t;
        object = true;
      }))) 0 (DeclOffsets P
      (ctor (record {
        at = z.from;
        name = word text z;
        params = [];
        fields = [];
        parent = Some t;
        object = true;
      })) × DeclFewCases n (ctor (record {
        at = z.from;
        name = word text z;
        params = [];
        fields = [];
        parent = Some
            t;
        object = true;
      })))
  class_case_object ts us vs t c k z x d1 d2 ok =
      let s1 = d1 ok in
      let s2 = d2 (tail n P (tail n P (tail n P (tail n P s1.left)))) in
      record {
        good = assumption (
          s1.good,
          head n P s1.left,
          head n P ((tail n P s1.left)),
          head n P ((tail n P
              (tail n P s1.left))),
          head n P ((tail n P (tail n P (tail n P s1.left)))),
          s2.good,
        );
        left = s2.left;
        small = omega (arith, s1.small, s2.small, ok.few);
        quarter = omega (
          arith,
          s1.quarter,
          s2.quarter,
          s1.small,
          s2.small,
          ok.few,
        );
      }

  pub size_def : {ts us : List Token} {x : DeclTree} → IsDef text ts us x → Ok n P ts
      → Sized n P ts us (decl_nodes x + 1) 0 (DeclOffsets P x × DeclFewCases n x)
  size_def (def_of {ts = ts} {us = us} {vs = vs} {ws = ws} {xs = xs} {ys = ys} {tparams = tparams} {listed =
      listed} {params = params} {result = result} {pre = pre} {measure = ms} {body = body} {post = post} d z c q d1
      _ _ d2 d3 _ d4 _ d5) = def_def_of ts us vs ws xs ys tparams listed params result pre ms body post d z c q
      (size_annotations text n P d1) (size_type_params text n P d2) (size_param_list text n P d3)
      (size_type text n P d4) (size_body text n P d5)

  pub size_modified : {ts us : List Token} {m k : Modifiers} → IsModified ts us m k → Ok n P ts
      → Sized n P ts us 0 0 (Unit {0})
  size_modified (no_modifier {ts = ts} {m = m}) = modified_no_modifier ts m
  size_modified (one_modifier {ts = ts} {us = us} {m = m} {n = z} {k = k} t _ d1) = modified_one_modifier ts us m z
      k t (size_modified d1)

  pub size_parent : {ts us : List Token} {t : Option TypeTree} → IsParent text ts us t → Ok n P ts
      → Sized n P ts us 0 0 (WrittenOffsets P t)
  size_parent (no_parent {ts = ts}) = parent_no_parent ts
  size_parent (parent {ts = ts} {us = us} {t = t} x _ d1) = parent_parent ts us t x (size_type text n P d1)

  pub size_class : {ts us : List Token} {x : DeclTree} → IsClass text ts us x → Ok n P ts
      → Sized n P ts us (decl_nodes x) 0 (DeclOffsets P x × DeclFewCases n x)
  size_class (case_object {ts = ts} {us = us} {vs = vs} {t = t} c k z x d1 _ _ _ _ d2) ok = class_case_object ts us
      vs t c k z x (size_annotations text n P d1) (size_type text n P d2) ok
  size_class (class_of {ts = ts} {us = us} {vs = vs} {ws = ws} {xs = xs} {ys = ys} {m = m} {trait = trait} {tparams
      = tparams} {fields = fields} {extended = extended} k z d1 d2 _ _ d3 d4 d5) ok =
      let s1 = size_annotations text n P d1 ok in let s2 = size_modified d2 s1.left in
      let s3 = size_type_params text n P d3 (tail n P (tail n P s2.left)) in
      let s4 = size_param_list text n P d4 s3.left in let s5 = size_parent d5 s4.left in
      let c : ClassTree = record {
        at = z.from;
        name = word text z;
        params = tparams;
        fields = fields;
        parent =
            extended;
        object = false;
      } in
      let g = class_good m.sealed m.case trait c (head n P (tail n P s2.left), s4.good, s5.good) in
      record {
        good = (g.0, g.1);
        left = s5.left;
        small = omega (
          arith,
          g.2,
          s1.small,
          s2.small,
          s3.small,
          s4.small,
          s5.small,
        );
        quarter = omega (arith, s1.small, s2.small, s3.small, s4.small, s5.small);
      }
