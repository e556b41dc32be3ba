-- Written types where an expression stands are the sorts that are computed.
use Rattle.std.proofs.Common.{◌≡◌, List, [], Ok}
use Rattle.pp_rules.specs.Scope.{Env}
use Rattle.pp_rules.specs.Written.{IsWritten, AreWritten, written, written_from}
use Rattle.pp_sorts.proofs.Computed.{sound, sorts_sound, complete, sorts_complete}
use Rattle.pp_tree.specs.Plain.{TypeTree, TypeTrees}
use Rattle.pp_typed.specs.declared.sort.GenericSort.{GenericSort}

module _ (env : Env) where
  pub sound_written : (t : TypeTree) (s : GenericSort) → written env t ≡ Ok s → IsWritten env t s
  sound_written t s h = sound env.declared.roots env.type_params env.source t s h

  pub sound_all_written : (ts : TypeTrees) (ss : List GenericSort) → written_from env [] ts ≡ Ok ss
      → AreWritten env ts ss
  sound_all_written ts ss h = sorts_sound env.declared.roots env.type_params env.source ts ss h

  pub complete_written : {t : TypeTree} {s : GenericSort} → IsWritten env t s → written env t ≡ Ok s
  complete_written h = complete env.declared.roots env.type_params env.source h

  pub complete_all_written : {ts : TypeTrees} {ss : List GenericSort} → AreWritten env ts ss
      → written_from env [] ts ≡ Ok ss
  complete_all_written h = sorts_complete env.declared.roots env.type_params env.source h
