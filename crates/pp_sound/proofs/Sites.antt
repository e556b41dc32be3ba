-- What evaluation needs of the sites of an expression.
use Rattle.std.proofs.Common.{ℕ, List, ◌∷◌, ◌++◌, Option, Some, None, Contains}
use Rattle.std.specs.List.{All}
use Rattle.std.proofs.lemmas.List.Elements.{All-contains, All-contains_itself, All-head, All-tail, All-weaker}
use Rattle.std.proofs.lemmas.List.Elements.{Contains-append_left, Contains-append_right}
use Rattle.pp_prog.specs.declared.id.CheckId.{CheckId}
use Rattle.pp_prog.specs.declared.program.Program.{Program}
use Rattle.pp_prog.specs.Listing.{Site, plain, division, assertion, precondition, measure, matching, postcondition}
use Rattle.pp_prog.specs.Valid.{Carries}
use Rattle.pp_sound.proofs.Parts.{IsOwn}

-- the check that a site carries
abbrev pub check_of : Site → Option CheckId
check_of (plain check) = None
check_of (division check) = check
check_of (assertion check) = Some check
check_of (precondition g check) = check
check_of (measure g check) = check
check_of (matching s patterns check) = check
check_of (postcondition check) = Some check

-- a site of function number i carries a check exactly where it can fail, and the check is one of the function's
pub record IsMet (p : Program) (i : ℕ) (site : Site) : Type 0 where
  pub carries : Carries p.types p.functions i site
  pub own : IsOwn p i (check_of site)

-- each site is met
pub record AreMet (p : Program) (i : ℕ) (sites : List Site) : Type 0 where
  pub each : All (IsMet p i) sites

module _ {p : Program} {i : ℕ} where
  pub met_left : (xs ys : List Site) → AreMet p i (xs ++ ys) → AreMet p i xs
  met_left xs ys h = record {
    each = All-weaker (λ x. Contains xs x) (IsMet p i) (λ x has. All-contains (IsMet p i) (xs ++ ys) x h.each
        (Contains-append_left xs ys x has)) xs (All-contains_itself xs);
  }

  pub met_right : (xs ys : List Site) → AreMet p i (xs ++ ys) → AreMet p i ys
  met_right xs ys h = record {
    each = All-weaker (λ x. Contains ys x) (IsMet p i) (λ x has. All-contains (IsMet p i) (xs ++ ys) x h.each
        (Contains-append_right xs ys x has)) ys (All-contains_itself ys);
  }

  pub met_head : {site : Site} {rest : List Site} → AreMet p i (site ∷ rest) → IsMet p i site
  met_head {site = site} {rest = rest} h = All-head (IsMet p i) site rest h.each

  pub met_tail : {site : Site} {rest : List Site} → AreMet p i (site ∷ rest) → AreMet p i rest
  met_tail {site = site} {rest = rest} h = record { each = All-tail (IsMet p i) site rest h.each }
