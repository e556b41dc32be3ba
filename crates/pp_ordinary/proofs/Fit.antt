-- What is supposed of a typing holds where its units are spelled by short texts.
use Rattle.std.proofs.Common.{◌<◌, ◌^◌, ℕ, List, arith, subst, sym}
use Rattle.pp_text.specs.Limits.{most_bytes}
use Rattle.pp_tree.specs.Plain.{UnitTree}
use Rattle.pp_typed.specs.declared.typed.Typed.{Typed}
use Rattle.pp_types_laws.proofs.Narrow.{typing_narrow}
use Rattle.pp_types_laws.proofs.Placed.{typing_stands}
use Rattle.pp_types_laws.proofs.Sites.{typing_apart}
use Rattle.pp_types_laws.proofs.Sizes.{typing_nodes}
use Rattle.pp_types_laws.proofs.WellSorted.{typing_well_sorted}
use Rattle.pp_types_laws.specs.Typing.{HasTyping}
use Rattle.pp_ordinary.proofs.Apart.{sites_apart}
use Rattle.pp_ordinary.proofs.Offsets.{cases_few, nodes_few, offsets_stand}
use Rattle.pp_ordinary.proofs.Ordinary.{ordinary}
use Rattle.pp_ordinary.specs.Laws.{AreShort, IsFit}
use Rattle.pp_ordinary.specs.Spelled.{EachSpells}

pub typing_fit : (texts : List (List ℕ)) (units : List UnitTree) (typed : Typed) → AreShort texts
    → EachSpells texts units → HasTyping units typed → IsFit texts typed
typing_fit texts units typed are spells h = record {
  sorted = typing_well_sorted units typed (ordinary texts units spells).numbers h;
  stands = typing_stands texts units typed (offsets_stand texts units spells) h;
  small = record {
    nodes = subst (λ (n : ℕ). n < 2 ^ 22) (sym (typing_nodes units typed h))
        (nodes_few texts units are.few are.short spells);
    cases = typing_narrow most_bytes (omega arith) units typed (cases_few texts units are.short spells) h;
  };
  apart = typing_apart units typed (sites_apart texts units spells) h;
}
