-- Sizes and offsets of types.
use Rattle.pp_grammar.specs.Types.{IsAscription, IsBreak, IsBreaks, IsGap, IsSemis, IsType, IsTypes, ascribed}
use Rattle.pp_grammar.specs.Types.{last_type, more_newlines, no_newline, no_newlines, no_semi, no_type, one_more_type}
use Rattle.pp_grammar.specs.Types.{one_newline, one_semi, semis, type_name, type_of}
use Rattle.pp_grammar.specs.Words.{word}
use Rattle.pp_grammar_laws.proofs.Sized.{Ok, Sized, head, tail}
use Rattle.pp_tokens.specs.declared.token.Token.{Token}
use Rattle.pp_tree.specs.Offsets.{TypeOffsets, TypesOffsets, WrittenOffsets}
use Rattle.pp_tree.specs.Plain.{TypeTree, TypeTrees, Word, more_types, no_types, type_text}
use Rattle.std.proofs.Common.{List, None, Option, Some, arith, ℕ, ◌∷◌}

module _ (text : Word) (n : ℕ) (P : ℕ → Type 0) where
  gap_no_semi : (ts : List Token) → Ok n P ts → Sized n P ts ts 0 0 (Unit {0})
  gap_no_semi ts ok =
      record { good = tt; left = ok; small = omega (arith, ok.few); quarter = omega (arith, ok.few) }

  gap_one_semi : (ts : List Token) (us : List Token) (t : Token) → (Ok n P ts → Sized n P ts us 0 0 (Unit {0}))
      → Ok n P (t ∷ ts) → Sized n P (t ∷ ts) us 0 0 (Unit {0})
  gap_one_semi ts us t d1 ok =
      let s1 = d1 (tail n P ok) in
      record {
        good = tt;
        left = s1.left;
        small = omega (arith, s1.small, ok.few);
        quarter = omega (
          arith,
          s1.quarter,
          s1.small,
          ok.few,
        );
      }

  semis_semis : (ts : List Token) (us : List Token) (t : Token) → (Ok n P ts → Sized n P ts us 0 0 (Unit {0}))
      → Ok n P (t ∷ ts) → Sized n P (t ∷ ts) us 0 0 (Unit {0})
  semis_semis ts us t d1 ok =
      let s1 = d1 (tail n P ok) in
      record {
        good = tt;
        left = s1.left;
        small = omega (arith, s1.small, ok.few);
        quarter = omega (
          arith,
          s1.quarter,
          s1.small,
          ok.few,
        );
      }

  break_no_newline : (ts : List Token) → Ok n P ts → Sized n P ts ts 0 0 (Unit {0})
  break_no_newline ts ok =
      record { good = tt; left = ok; small = omega (arith, ok.few); quarter = omega (arith, ok.few) }

  break_one_newline : (ts : List Token) (t : Token) → Ok n P (t ∷ ts) → Sized n P (t ∷ ts) ts 0 0 (Unit {0})
  break_one_newline ts t ok =
      record { good = tt; left = (tail n P ok); small = omega (arith, ok.few); quarter = omega (arith, ok.few) }

  breaks_no_newlines : (ts : List Token) → Ok n P ts → Sized n P ts ts 0 0 (Unit {0})
  breaks_no_newlines ts ok =
      record { good = tt; left = ok; small = omega (arith, ok.few); quarter = omega (arith, ok.few) }

  breaks_more_newlines : (ts : List Token) (us : List Token) (t : Token) → (Ok n P ts
      → Sized n P ts us 0 0 (Unit {0})) → Ok n P (t ∷ ts) → Sized n P (t ∷ ts) us 0 0 (Unit {0})
  breaks_more_newlines ts us t d1 ok =
      let s1 = d1 (tail n P ok) in
      record {
        good = tt;
        left = s1.left;
        small = omega (arith, s1.small, ok.few);
        quarter = omega (
          arith,
          s1.quarter,
          s1.small,
          ok.few,
        );
      }

  type_type_name : (us : List Token) (t : Token) → Ok n P (t ∷ us) → Sized n P (t ∷ us) us 0 0 (TypeOffsets P
      (type_text t.from (word text t) no_types))
  type_type_name us t ok =
      record {
        good = assumption (head n P ok);
        left = (tail n P ok);
        small = omega (arith, ok.few);
        quarter =
            omega (arith, ok.few);
      }

  type_type_of : (ts : List Token) (us : List Token) (tys : TypeTrees) (t : Token) (o : Token) → (Ok n P ts
      → Sized n P ts us 0 0 (TypesOffsets P tys)) → Ok n P (t ∷ o ∷ ts)
      → Sized n P (t ∷ o ∷ ts) us 0 0 (TypeOffsets P (type_text t.from (word text t) tys))
  type_type_of ts us tys t o d1 ok =
      let s1 = d1 (tail n P (tail n P ok)) in
      record {
        good = assumption (head n P ok, head n P ((tail n P ok)), s1.good);
        left = s1.left;
        small = omega
            (arith, s1.small, ok.few);
        quarter = omega (arith, s1.quarter, s1.small, ok.few);
      }

  types_last_type : (ts : List Token) (us : List Token) (a : TypeTree) (c : Token) → (Ok n P ts
      → Sized n P ts (c ∷ us) 0 0 (TypeOffsets P a)) → Ok n P ts → Sized n P ts us 0 0 (TypesOffsets P (more_types
      a no_types))
  types_last_type ts us a c d1 ok =
      let s1 = d1 ok in
      record {
        good = assumption (s1.good, head n P s1.left);
        left = (tail n P s1.left);
        small = omega (
          arith,
          s1.small,
          ok.few,
        );
        quarter = omega (arith, s1.quarter, s1.small, ok.few);
      }

  types_one_more_type : (ts : List Token) (us : List Token) (vs : List Token) (a : TypeTree) (tys : TypeTrees) (c :
      Token) → (Ok n P ts → Sized n P ts (c ∷ us) 0 0 (TypeOffsets P a)) → (Ok n P us
      → Sized n P us vs 0 0 (TypesOffsets P tys)) → Ok n P ts → Sized n P ts vs 0 0 (TypesOffsets P (more_types a
      tys))
  types_one_more_type ts us vs a tys c d1 d2 ok =
      let s1 = d1 ok in
      let s2 = d2 (tail n P s1.left) in
      record {
        good = assumption (s1.good, head n P s1.left, s2.good);
        left = s2.left;
        small = omega (
          arith,
          s1.small,
          s2.small,
          ok.few,
        );
        quarter = omega (arith, s1.quarter, s2.quarter, s1.small, s2.small, ok.few);
      }

  ascription_no_type : (ts : List Token) → Ok n P ts → Sized n P ts ts 0 0 (WrittenOffsets P None)
  ascription_no_type ts ok =
      record { good = assumption ok; left = ok; small = omega (arith, ok.few); quarter = omega (arith, ok.few) }

  ascription_ascribed : (ts : List Token) (us : List Token) (a : TypeTree) (c : Token) → (Ok n P ts
      → Sized n P ts us 0 0 (TypeOffsets P a)) → Ok n P (c ∷ ts) → Sized n P (c ∷ ts) us 0 0 (WrittenOffsets P
      (Some a))
  ascription_ascribed ts us a c d1 ok =
      let s1 = d1 (tail n P ok) in
      record {
        good = assumption (head n P ok, s1.good);
        left = s1.left;
        small = omega (arith, s1.small, ok.few);
        quarter = omega (arith, s1.quarter, s1.small, ok.few);
      }

  pub size_gap : {ts us : List Token} → IsGap ts us → Ok n P ts → Sized n P ts us 0 0 (Unit {0})
  size_gap (no_semi {ts = ts}) = gap_no_semi ts
  size_gap (one_semi {ts = ts} {us = us} t _ d1) = gap_one_semi ts us t (size_gap d1)

  pub size_semis : {ts us : List Token} → IsSemis ts us → Ok n P ts → Sized n P ts us 0 0 (Unit {0})
  size_semis (semis {ts = ts} {us = us} t _ d1) = semis_semis ts us t (size_gap d1)

  pub size_break : {ts us : List Token} → IsBreak ts us → Ok n P ts → Sized n P ts us 0 0 (Unit {0})
  size_break (no_newline {ts = ts}) = break_no_newline ts
  size_break (one_newline {ts = ts} t _) = break_one_newline ts t

  pub size_breaks : {ts us : List Token} → IsBreaks ts us → Ok n P ts → Sized n P ts us 0 0 (Unit {0})
  size_breaks (no_newlines {ts = ts}) = breaks_no_newlines ts
  size_breaks (more_newlines {ts = ts} {us = us} t _ d1) = breaks_more_newlines ts us t (size_breaks d1)

  mutual
    pub size_type : {ts us : List Token} {a : TypeTree} → IsType text ts us a → Ok n P ts
        → Sized n P ts us 0 0 (TypeOffsets P a)
    size_type (type_name {us = us} t _) = type_type_name us t
    size_type (type_of {ts = ts} {us = us} {args = tys} t o _ _ d1) = type_type_of ts us tys t o (size_types d1)

    pub size_types : {ts us : List Token} {a : TypeTrees} → IsTypes text ts us a → Ok n P ts
        → Sized n P ts us 0 0 (TypesOffsets P a)
    size_types (last_type {ts = ts} {us = us} {a = a} c d1 _) = types_last_type ts us a c (size_type d1)
    size_types (one_more_type {ts = ts} {us = us} {vs = vs} {a = a} {args = tys} c d1 _ d2) = types_one_more_type
        ts us vs a tys c (size_type d1) (size_types d2)

  pub size_ascription : {ts us : List Token} {a : Option TypeTree} → IsAscription text ts us a → Ok n P ts
      → Sized n P ts us 0 0 (WrittenOffsets P a)
  size_ascription (no_type {ts = ts}) = ascription_no_type ts
  size_ascription (ascribed {ts = ts} {us = us} {a = a} c _ d1) = ascription_ascribed ts us a c (size_type d1)
