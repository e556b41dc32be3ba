-- Checks in order, one more.
use Rattle.std.proofs.Common.{◌≡◌, ℕ, suc, ◌+◌, ◌<◌, List, [], ◌∷◌, ◌++◌, take, length, get_or, sym, ap, ◌∙◌, arith}
use Rattle.std.proofs.lemmas.List.{length-take, take_more}
use Rattle.pp_prog.specs.declared.check.Check.{Check}
use Rattle.pp_prog.specs.declared.place.Place.{Place}
use Rattle.pp_translation.specs.Defs.{checks_from, numbered}
use Rattle.pp_translation.specs.Functions.{place_at}
use Rattle.pp_translation.specs.declared.frame.CheckAt.{CheckAt}

module _ (texts : List (List ℕ)) where
  checks_push : (n : ℕ) (cs : List CheckAt) (c : CheckAt)
      → checks_from texts n (cs ++ c ∷ []) ≡ checks_from texts n cs ++ numbered texts (n + length cs) c ∷ []
  checks_push n [] c = let e : n ≡ n + 0 = omega arith in ap (λ k. numbered texts k c ∷ []) e
  checks_push n (b ∷ cs) c =
      let e : suc n + length cs ≡ n + suc (length cs) = omega arith in
      ap (λ l. numbered texts n b ∷ l)
      (checks_push (suc n) cs c ∙ ap (λ k. checks_from texts (suc n) cs ++ numbered texts k c ∷ []) e)

  abbrev placed : ℕ → CheckAt → Place → Check
  placed n c place = record {
    id = record { 0 = n };
    function = record { 0 = c.function };
    kind = c.kind;
    place =
        place;
  }

  pub checks_turn : (cs : List CheckAt) (i : ℕ) (d : CheckAt) (done new : List Check) (place : Place) → i < length cs
      → done ≡ checks_from texts 0 (take i cs) → place ≡ place_at texts ((get_or cs i d).source, (get_or cs i d).at)
      → new ≡ done ++ placed i (get_or cs i d) place ∷ [] → new ≡ checks_from texts 0 (take (i + 1) cs)
  checks_turn cs i d done new place lt was at more =
      let c = get_or cs i d in
      let e : i ≡ 0 + length (take i cs) = (let f = length-take i cs in omega arith) in
      more ∙ ap (λ l. l ++ placed i c place ∷ []) was
      ∙ ap (λ z. checks_from texts 0 (take i cs) ++ placed i c z ∷ []) at
      ∙ ap (λ n. checks_from texts 0 (take i cs) ++ numbered texts n c ∷ []) e
      ∙ sym (checks_push 0 (take i cs) c) ∙ ap (checks_from texts 0) (sym (take_more cs i d lt))
