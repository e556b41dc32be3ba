-- Calls of the domain one after another keep trees and literals.
use Rattle.std.proofs.Common.{List}
use Rattle.pp_prog.specs.declared.types.TypeTable.{TypeTable}
use Rattle.pp_gate.specs.declared.gate.Gate.{Gate}
use Rattle.pp_bounded_trees.specs.declared.arena.Trees.{Trees}
use Rattle.pp_bounded_trees.specs.Meaning.{BoundedFits}
use Rattle.pp_bounded_samples.specs.Kept.{Goes, Looked}

pub goes_more : (types : TypeTable) (c d e : Trees) (fs gs hs : List Gate) → Goes types c fs d gs
    → Goes types d gs e hs → Goes types c fs e hs
goes_more types c d e fs gs hs a b = record {
  fits = b.fits;
  kept = λ t k. b.kept t (a.kept t k);
  pairs = λ p k. b.pairs p (a.pairs p k);
  nodes = λ t n. b.nodes t (a.nodes t n);
  literals = λ l of. b.literals l (a.literals l of);
}

pub goes_none : (types : TypeTable) (d : Trees) (gs : List Gate) → BoundedFits types d gs → Goes types d gs d gs
goes_none types d gs fits = record {
  fits = fits;
  kept = λ t k. k;
  pairs = λ p k. k;
  nodes = λ t n. n;
  literals = λ l of. of;
}

pub looked_more : (types : TypeTable) (c d e : Trees) (fs gs hs : List Gate) → Looked types c fs d gs
    → Looked types d gs e hs → Looked types c fs e hs
looked_more types c d e fs gs hs a b = record {
  goes = goes_more types c d e fs gs hs a.goes b.goes;
  reads = λ s t k. b.reads s t (a.reads s t k);
}

pub looked_none : (types : TypeTable) (d : Trees) (gs : List Gate) → BoundedFits types d gs → Looked types d gs d gs
looked_none types d gs fits = record { goes = goes_none types d gs fits; reads = λ s t k. k }
