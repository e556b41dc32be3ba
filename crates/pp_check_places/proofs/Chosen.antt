-- The kinds and offsets of those sites that carry a check.
use Rattle.std.proofs.Common.{◌≡◌, List, [], ◌∷◌, ◌++◌, map, Contains, Option, Some, None, refl, sym, ap, ◌∙◌, subst}
use Rattle.pp_list.specs.Joined.{joined}
use Rattle.pp_check_places.proofs.Marked.{KindAt, kind_of, offset_of}
use Rattle.pp_check_places.proofs.SiteKinds.{site_kinds}
use Rattle.pp_instances.proofs.Kept.{nothing_in}
use Rattle.pp_order.proofs.Made.{in_head, in_tail, in_more}
use Rattle.pp_prog.specs.Listing.{Site, as_kind, assertion, carried, division, matching, measure, plain, postcondition}
use Rattle.pp_prog.specs.Listing.{precondition}
use Rattle.pp_prog.specs.declared.check.CheckKind.{CheckKind}
use Rattle.pp_prog.specs.declared.check.CheckKind.TheVariants as kind
use Rattle.pp_prog.specs.declared.id.CheckId.{CheckId}
use Rattle.pp_translation.specs.Places.{for_each, told}

-- no element stands there twice
abbrev pub Differ : {X : Type 0} → List X → Type 0
Differ [] = Unit {0}
Differ (x ∷ xs) = (Contains xs x → ⊥) × Differ xs

abbrev pub carried_kind : CheckId × CheckKind → CheckKind
carried_kind c = c.1

abbrev pub carried_kinds : List Site → List CheckKind
carried_kinds ss = map carried_kind (joined (map carried ss))

-- those of the kinds and offsets of sites at which a site carries a check
pub record AreChosen (ss : List Site) (ps : List KindAt) : Type 0 where
  pub chosen : List KindAt
  pub offsets : map offset_of chosen ≡ told ss (map offset_of ps)
  pub kinds : map kind_of chosen ≡ carried_kinds ss
  pub among : (p : KindAt) → Contains chosen p → Contains ps p
  pub differ : Differ ps → Differ chosen

chosen_none : (ps : List KindAt) → AreChosen [] ps
chosen_none ps = record {
  chosen = [];
  offsets = refl;
  kinds = refl;
  among = λ p has. absurd (nothing_in p has);
  differ = λ all. tt;
}

chosen_plain : (check : Option CheckId) (ss : List Site) (ps : List KindAt) → AreChosen ss ps
    → AreChosen (plain check ∷ ss) ps
chosen_plain check ss ps more = record {
  chosen = more.chosen;
  offsets = more.offsets;
  kinds = more.kinds;
  among = more.among;
  differ = more.differ;
}

chosen_one : (site : Site) (k : CheckKind) (o : Option CheckId) (ss : List Site) (p : KindAt) (ps : List KindAt)
    → carried site ≡ as_kind k o
    → told (site ∷ ss) (p.1 ∷ map offset_of ps) ≡ for_each (as_kind k o) p.1 ++ told ss (map offset_of ps) → p.0 ≡ k
    → AreChosen ss ps → AreChosen (site ∷ ss) (p ∷ ps)
chosen_one site k None ss p ps is at same more = record {
  chosen = more.chosen;
  offsets = more.offsets ∙ sym at;
  kinds = more.kinds ∙ ap (λ l. map carried_kind (l ++ joined (map carried ss))) (sym is);
  among = λ q has. in_tail p q ps (more.among q has);
  differ = λ all. more.differ all.1;
}
chosen_one site k (Some c) ss p ps is at same more = record {
  chosen = p ∷ more.chosen;
  offsets = ap (λ l. p.1 ∷ l) more.offsets ∙ sym at;
  kinds = ap (λ z. z ∷ map kind_of more.chosen) same ∙ ap (λ l. k ∷ l) more.kinds
      ∙ ap (λ l. map carried_kind (l ++ joined (map carried ss))) (sym is);
  among = λ q has. in_more p q more.chosen has (λ e. subst (Contains (p ∷ ps)) e (in_head p ps))
      (λ later. in_tail p q ps (more.among q later));
  differ = λ all. ((λ has. all.0 (more.among p has)), more.differ all.1);
}

head_kind : (k l : CheckKind) (ks ls : List CheckKind) → k ∷ ks ≡ l ∷ ls → k ≡ l
head_kind k l ks ls is = cc

tail_kinds : (k l : CheckKind) (ks ls : List CheckKind) → k ∷ ks ≡ l ∷ ls → ks ≡ ls
tail_kinds k l ks ls is = cc

no_kinds : (k : CheckKind) (ks : List CheckKind) → [] ≡ k ∷ ks → ⊥
no_kinds k ks is = cc

-- where the kinds are those of the sites
pub choose : (ss : List Site) (ps : List KindAt) → map kind_of ps ≡ site_kinds ss → AreChosen ss ps
choose [] ps are = chosen_none ps
choose (plain check ∷ ss) ps are = chosen_plain check ss ps (choose ss ps are)
choose (division check ∷ ss) [] are = absurd (no_kinds _ _ are)
choose (division check ∷ ss) (p ∷ ps) are =
    chosen_one (division check) kind.Division check ss p ps refl refl (head_kind _ _ _ _ are)
    (choose ss ps (tail_kinds _ _ _ _ are))
choose (assertion check ∷ ss) [] are = absurd (no_kinds _ _ are)
choose (assertion check ∷ ss) (p ∷ ps) are =
    chosen_one (assertion check) kind.Assertion (Some check) ss p ps refl refl (head_kind _ _ _ _ are)
    (choose ss ps (tail_kinds _ _ _ _ are))
choose (precondition g check ∷ ss) [] are = absurd (no_kinds _ _ are)
choose (precondition g check ∷ ss) (p ∷ ps) are =
    chosen_one (precondition g check) kind.Precondition check ss p ps refl refl (head_kind _ _ _ _ are)
    (choose ss ps (tail_kinds _ _ _ _ are))
choose (measure g check ∷ ss) [] are = absurd (no_kinds _ _ are)
choose (measure g check ∷ ss) (p ∷ ps) are =
    chosen_one (measure g check) kind.Measure check ss p ps refl refl (head_kind _ _ _ _ are)
    (choose ss ps (tail_kinds _ _ _ _ are))
choose (matching s patterns check ∷ ss) [] are = absurd (no_kinds _ _ are)
choose (matching s patterns check ∷ ss) (p ∷ ps) are =
    chosen_one (matching s patterns check) kind.Match check ss p ps refl refl (head_kind _ _ _ _ are)
    (choose ss ps (tail_kinds _ _ _ _ are))
choose (postcondition check ∷ ss) [] are = absurd (no_kinds _ _ are)
choose (postcondition check ∷ ss) (p ∷ ps) are =
    chosen_one (postcondition check) kind.Postcondition (Some check) ss p ps refl refl (head_kind _ _ _ _ are)
    (choose ss ps (tail_kinds _ _ _ _ are))
