-- Sizes and offsets of imports.
use Rattle.pp_grammar.specs.Units.{IsChoice, IsImportText}
use Rattle.pp_grammar.specs.Units.{IsPath}
use Rattle.pp_grammar.specs.Units.{import_all, import_path, import_some}
use Rattle.pp_grammar.specs.Units.{last_chosen, last_of_path, more_of_path}
use Rattle.pp_grammar.specs.Units.{one_more_chosen}
use Rattle.pp_grammar_laws.proofs.Sized.{Ok, Sized, head, tail}
use Rattle.pp_tokens.specs.declared.token.Token.{Token}
use Rattle.pp_tree.specs.Plain.{Word}
use Rattle.std.proofs.Common.{Bool, List, arith, ℕ, ◌∷◌}

module _ (text : Word) (n : ℕ) (P : ℕ → Type 0) where
  path_last_of_path : (us : List Token) (z : Token) → Ok n P (z ∷ us) → Sized n P (z ∷ us) us 0 0 (Unit {0})
  path_last_of_path us z ok =
      record { good = tt; left = (tail n P ok); small = omega (arith, ok.few); quarter = omega (arith, ok.few) }

  path_more_of_path : (ts : List Token) (us : List Token) (k : ℕ) (z : Token) (dot : Token) → (Ok n P ts
      → Sized n P ts us 0 0 (Unit {0})) → Ok n P (z ∷ dot ∷ ts) → Sized n P (z ∷ dot ∷ ts) us 0 0 (Unit {0})
  path_more_of_path ts us k z dot d1 ok =
      let s1 = d1 (tail n P (tail n P ok)) in
      record {
        good = tt;
        left = s1.left;
        small = omega (arith, s1.small, ok.few);
        quarter = omega (
          arith,
          s1.quarter,
          s1.small,
          ok.few,
        );
      }

  choice_last_chosen : (us : List Token) (z : Token) (c : Token) → Ok n P (z ∷ c ∷ us)
      → Sized n P (z ∷ c ∷ us) us 0 0 (Unit {0})
  choice_last_chosen us z c ok =
      record {
        good = tt;
        left = (tail n P (tail n P ok));
        small = omega (arith, ok.few);
        quarter = omega (
          arith,
          ok.few,
        );
      }

  choice_one_more_chosen : (ts : List Token) (us : List Token) (z : Token) (c : Token) → (Ok n P ts
      → Sized n P ts us 0 0 (Unit {0})) → Ok n P (z ∷ c ∷ ts) → Sized n P (z ∷ c ∷ ts) us 0 0 (Unit {0})
  choice_one_more_chosen ts us z c d1 ok =
      let s1 = d1 (tail n P (tail n P ok)) in
      record {
        good = tt;
        left = s1.left;
        small = omega (arith, s1.small, ok.few);
        quarter = omega (
          arith,
          s1.quarter,
          s1.small,
          ok.few,
        );
      }

  import_text_import_path : (ts : List Token) (us : List Token) (k : ℕ) (i : Token) (z : Token)
      → (Ok n P (z ∷ ts) → Sized n P (z ∷ ts) us 0 0 (Unit {0})) → Ok n P (i ∷ z ∷ ts)
      → Sized n P (i ∷ z ∷ ts) us 0 0 (P z.from)
  import_text_import_path ts us k i z d1 ok =
      let s1 = d1 (tail n P ok) in
      record {
        good = assumption (head n P ok, head n P ((tail n P ok)), s1.good);
        left = s1.left;
        small = omega
            (arith, s1.small, ok.few);
        quarter = omega (arith, s1.quarter, s1.small, ok.few);
      }

  import_text_import_all : (ts : List Token) (us : List Token) (k : ℕ) (i : Token) (z : Token) (dot : Token) (h :
      Token) → (Ok n P (z ∷ ts) → Sized n P (z ∷ ts) (dot ∷ h ∷ us) 0 0 (Unit {0})) → Ok n P (i ∷ z ∷ ts)
      → Sized n P (i ∷ z ∷ ts) us 0 0 (P z.from)
  import_text_import_all ts us k i z dot h d1 ok =
      let s1 = d1 (tail n P ok) in
      record {
        good = assumption (
          head n P ok,
          head n P ((tail n P ok)),
          s1.good,
          head n P s1.left,
          head n P ((tail
              n P s1.left)),
        );
        left = (tail n P (tail n P s1.left));
        small = omega (arith, s1.small, ok.few);
        quarter =
            omega (arith, s1.quarter, s1.small, ok.few);
      }

  import_text_import_some : (ts : List Token) (us : List Token) (vs : List Token) (k : ℕ) (i : Token) (z : Token)
      (dot : Token) (o : Token) → (Ok n P (z ∷ ts) → Sized n P (z ∷ ts) (dot ∷ o ∷ us) 0 0 (Unit {0}))
      → (Ok n P us → Sized n P us vs 0 0 (Unit {0})) → Ok n P (i ∷ z ∷ ts) → Sized n P (i ∷ z ∷ ts) vs 0 0 (P z.from)
  import_text_import_some ts us vs k i z dot o d1 d2 ok =
      let s1 = d1 (tail n P ok) in
      let s2 = d2 (tail n P (tail n P s1.left)) in
      record {
        good = assumption (
          head n P ok,
          head n P ((tail n P ok)),
          s1.good,
          head n P s1.left,
          head n P ((tail
              n P s1.left)),
          s2.good,
        );
        left = s2.left;
        small = omega (arith, s1.small, s2.small, ok.few);
        quarter =
            omega (arith, s1.quarter, s2.quarter, s1.small, s2.small, ok.few);
      }

  pub size_path : {ts us : List Token} {k : ℕ} → IsPath text ts us k → Ok n P ts → Sized n P ts us 0 0 (Unit {0})
  size_path (last_of_path {us = us} z _) = path_last_of_path us z
  size_path (more_of_path {ts = ts} {us = us} {k = k} z dot _ _ d1) = path_more_of_path ts us k z dot (size_path d1)

  pub size_choice : {ts us : List Token} → IsChoice ts us → Ok n P ts → Sized n P ts us 0 0 (Unit {0})
  size_choice (last_chosen {us = us} z c _ _) = choice_last_chosen us z c
  size_choice (one_more_chosen {ts = ts} {us = us} z c _ _ d1) = choice_one_more_chosen ts us z c (size_choice d1)

  pub size_import_text : {ts us : List Token} {z : Token} {w : Bool} → IsImportText text ts us z w → Ok n P ts
      → Sized n P ts us 0 0 (P z.from)
  size_import_text (import_path {ts = ts} {us = us} {k = k} i z _ d1 _) = import_text_import_path ts us k i z
      (size_path d1)
  size_import_text (import_all {ts = ts} {us = us} {k = k} i z dot h _ d1 _ _) = import_text_import_all ts us k i z
      dot h (size_path d1)
  size_import_text (import_some {ts = ts} {us = us} {vs = vs} {k = k} i z dot o _ d1 _ _ d2) =
      import_text_import_some ts us vs k i z dot o (size_path d1) (size_choice d2)
