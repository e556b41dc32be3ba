-- Levels that come in one after another.
use Rattle.std.proofs.Common.{◌≡◌, ℕ, ◌+◌, ◌<◌, ◌≤◌, ◌^◌, Bool, List, [], ◌∷◌, ◌++◌, length, take}
use Rattle.std.proofs.Common.{Some}
use Rattle.std.proofs.Common.{refl, sym, ap, ◌∙◌, subst, arith, slice_get, inl, inr}
use Rattle.std.proofs.lemmas.List.{append-nil, append_assoc, take_all}
use Rattle.pp_prog.specs.declared.id.DataId.{DataId}
use Rattle.pp_prog.specs.declared.sort.Sort.{Sort}
use Rattle.pp_prog.specs.declared.sort.Sort.TheVariants as sort
use Rattle.pp_prog.specs.declared.types.Ctor.{Ctor}
use Rattle.pp_prog.specs.declared.types.TypeTable.{TypeTable}
use Rattle.pp_clause.specs.Literal.{Literal}
use Rattle.pp_gate.specs.declared.gate.Gate.{Gate}
use Rattle.pp_gate.specs.Circuit.{Gives, IsCircuit}
use Rattle.pp_gate.specs.Growth.{Grows}
use Rattle.pp_gate.proofs.Growing.{length-Grows}
use Rattle.pp_gate.proofs.Places.{at_left, at_next, at_push}
use Rattle.pp_graph.specs.Reaches.{AreGroups}
use Rattle.pp_bits.specs.Inputs.{AreInputs, ChosenNumber}
use Rattle.pp_domain.proofs.Composition.{Extended_grown, Extended_more, Extended_none, Moves_grown, Moves_more}
use Rattle.pp_domain.proofs.Composition.{Moves_none}
use Rattle.pp_domain.proofs.Composition.{Moves_weaker}
use Rattle.pp_checks.specs.Tables.{field_table}
use Rattle.pp_bounded_trees.specs.Possible.{total}
use Rattle.pp_bounded_trees.proofs.Candidates.{take_next}
use Rattle.pp_named_trees.specs.declared.arena.Level.{Level}
use Rattle.pp_named_trees.specs.declared.arena.NamedTrees.{NamedTrees}
use Rattle.pp_named_trees.specs.Arena.{IsName}
use Rattle.pp_named_trees.specs.Kept.{with_level}
use Rattle.pp_named_trees.specs.Meaning.{NamedFits, named_sense}
use Rattle.pp_named_trees.proofs.Lawful.{named_lawful}
use Rattle.pp_named_order.specs.Order.{OneGroup}
use Rattle.pp_named_instances.specs.Condition.{HasLevel, is_first, was_made}
use Rattle.pp_named_instances.specs.Levels.{AddsLevels, CtorsHaveLevels, SortHasLevel, SortsHaveLevels}
use Rattle.pp_named_instances.specs.Levels.{WasMade, ctor_level_gates, level_gates, with_levels}
use Rattle.pp_named_instances.proofs.ContentTests.{total_next, total_turn}
use Rattle.pp_named_instances.proofs.Levelling.{levelled_extends, levelled_moves}

none_added : (d : NamedTrees) → d ≡ with_levels d []
none_added d = ap (λ (zs : List Level). record d { levels = zs }) (sym (append-nil d.levels))

-- ---- one level

pub levels_none : (types : TypeTable) (d : NamedTrees) (gs : List Gate) (k : ℕ) → NamedFits types d gs
    → AddsLevels types d gs d gs k
levels_none types d gs k fits = record {
  moves = Moves_weaker named_sense types d d gs gs 0 k (Moves_none named_sense types named_lawful d gs fits)
      (omega arith);
  added = [];
  is = none_added d;
  extends = λ n a good. Extended_none named_sense types d gs n a good;
}

-- inputs alone
pub levels_inputs : (types : TypeTable) (d e : NamedTrees) (gs hs : List Gate) (k : ℕ) → NamedFits types d gs
    → Grows gs hs k → IsCircuit hs → e ≡ d → AddsLevels types d gs e hs k
levels_inputs types d e gs hs k fits grows is same =
    subst (λ (f : NamedTrees). AddsLevels types d gs f hs k) (sym same) (record {
      moves = Moves_grown named_sense types named_lawful d gs hs k fits grows is;
      added = [];
      is = none_added d;
      extends = λ n a good. Extended_grown named_sense types named_lawful d gs hs k n a a fits grows is good;
    })

pub levels_one : (types : TypeTable) (d e : NamedTrees) (gs hs : List Gate) (of : DataId) (ls word : List Literal)
    → NamedFits types d gs → AreGroups (field_table types) d.groups → Grows gs hs 32 → IsCircuit hs
    → AreInputs gs hs 32 ls
    → ((s : ℕ → Bool) → Gives s gs → (v : ℕ) → v < 2 ^ 32 → ChosenNumber gs hs s ls v) → word ≡ ls
    → e ≡ with_level d (record { of = of; word = word }) → AddsLevels types d gs e hs 32
levels_one types d e gs hs of ls word fits are grows is inputs chosen same push =
    subst (λ (f : NamedTrees). AddsLevels types d gs f hs 32) (sym push) (record {
      moves = levelled_moves types d gs hs 32 z fits grows is are named;
      added = z ∷ [];
      is = refl;
      extends = levelled_extends types d gs hs 32 z fits grows is are named
          (subst (λ l. (s : ℕ → Bool) → Gives s gs → (v : ℕ) → v < 2 ^ 32 → ChosenNumber gs hs s l v) (sym same)
          chosen);
    })
  where
    z : Level
    z = record { of = of; word = word }

    named : IsName hs word
    named = subst (λ l. IsName hs l) (sym same) (record { len = inputs.len; of = inputs.of })

pub level_made : (groups : List ℕ) (levels zs : List Level) (d : DataId) → zs ≡ levels → WasMade zs d
    → HasLevel groups levels d
level_made groups levels zs d same made =
    was_made made.0 made.1 (ap (λ us. slice_get us made.0) (sym same) ∙ made.2) made.3

pub level_new : (d e : NamedTrees) (of : DataId) (word : List Literal)
    → e ≡ with_level d (record { of = of; word = word }) → HasLevel e.groups e.levels of
level_new d e of word push =
    was_made (length d.levels) (record { of = of; word = word })
    (ap (λ (f : NamedTrees). slice_get f.levels (length d.levels)) push ∙ at_next d.levels [] _) refl

-- ---- one after another

pub levels_more : (types : TypeTable) (c d e : NamedTrees) (fs gs hs : List Gate) (p q k : ℕ)
    → AddsLevels types c fs d gs p → AddsLevels types d gs e hs q → p + q ≤ k → AddsLevels types c fs e hs k
levels_more types c d e fs gs hs p q k one two le = record {
  moves = Moves_more named_sense types c d e fs gs hs p q k one.moves two.moves le;
  added = one.added ++ two.added;
  is = two.is ∙ ap (λ (m : NamedTrees). with_levels m two.added) one.is
      ∙ ap (λ (zs : List Level). record c { levels = zs }) (append_assoc c.levels one.added two.added);
  extends = λ n a good.
      let x = one.extends n a good in
      Extended_more named_sense types d e fs gs hs p n a one.moves.grows x (two.extends n x.next x.good);
}

pub levels_groups : (types : TypeTable) (d e : NamedTrees) (gs hs : List Gate) (k : ℕ) → AddsLevels types d gs e hs k
    → e.groups ≡ d.groups
levels_groups types d e gs hs k adds = ap (λ (f : NamedTrees). f.groups) adds.is

pub groups_later : (types : TypeTable) (d e : NamedTrees) (gs hs : List Gate) (k : ℕ) → AddsLevels types d gs e hs k
    → AreGroups (field_table types) d.groups → AreGroups (field_table types) e.groups
groups_later types d e gs hs k adds are =
    subst (λ groups. AreGroups (field_table types) groups) (sym (levels_groups types d e gs hs k adds)) are

pub level_later : (types : TypeTable) (d e : NamedTrees) (gs hs : List Gate) (k : ℕ) (of : DataId)
    → AddsLevels types d gs e hs k → HasLevel d.groups d.levels of → HasLevel e.groups e.levels of
level_later types d e gs hs k of adds (is_first at) =
    is_first (ap (λ groups. slice_get groups of.0) (levels_groups types d e gs hs k adds) ∙ at)
level_later types d e gs hs k of adds (was_made i z at same) =
    was_made i z (ap (λ (f : NamedTrees). slice_get f.levels i) adds.is ∙ at_left d.levels adds.added i z at) same

sort_later : (types : TypeTable) (d e : NamedTrees) (gs hs : List Gate) (k : ℕ) (of : DataId) (s : Sort)
    → AddsLevels types d gs e hs k → SortHasLevel d.groups d.levels of s → SortHasLevel e.groups e.levels of s
sort_later types d e gs hs k of sort.Int adds has = tt
sort_later types d e gs hs k of sort.Bool adds has = tt
sort_later types d e gs hs k of (sort.Tree u) adds has = λ one.
    level_later types d e gs hs k u adds
    (has (subst (λ groups. OneGroup groups of u) (levels_groups types d e gs hs k adds) one))

pub sorts_none : (groups : List ℕ) (levels : List Level) (d : DataId) → SortsHaveLevels groups levels d []
sorts_none groups levels d p s at = cc

pub sorts_turn : (types : TypeTable) (d e : NamedTrees) (gs hs : List Gate) (k : ℕ) (of : DataId) (ss : List Sort)
    (i : ℕ) (s : Sort) → slice_get ss i ≡ Some s → AddsLevels types d gs e hs k
    → SortsHaveLevels d.groups d.levels of (take i ss) → SortHasLevel e.groups e.levels of s
    → SortsHaveLevels e.groups e.levels of (take (i + 1) ss)
sorts_turn types d e gs hs k of ss i s at adds before own =
    subst (λ zs. SortsHaveLevels e.groups e.levels of zs) (sym (take_next ss i s at)) (λ p r to.
    elim (at_push (take i ss) s p r to) [
      | inl old ↦ sort_later types d e gs hs k of r adds (before p r old)
      | inr new ↦ subst (λ z. SortHasLevel e.groups e.levels of z) new.1 own
    ])

pub sorts_whole : (groups : List ℕ) (levels : List Level) (d : DataId) (ss : List Sort) (i : ℕ) → length ss ≤ i
    → SortsHaveLevels groups levels d (take i ss) → SortsHaveLevels groups levels d ss
sorts_whole groups levels d ss i end have =
    subst (λ zs. SortsHaveLevels groups levels d zs) (take_all i ss end) have

pub ctors_turn : (types : TypeTable) (d e : NamedTrees) (gs hs : List Gate) (n : ℕ) (of : DataId) (ks : List Ctor)
    (i : ℕ) (k : Ctor) (ss : List Sort) → slice_get ks i ≡ Some k → ss ≡ k.fields → AddsLevels types d gs e hs n
    → CtorsHaveLevels d.groups d.levels of (take i ks) → SortsHaveLevels e.groups e.levels of ss
    → CtorsHaveLevels e.groups e.levels of (take (i + 1) ks)
ctors_turn types d e gs hs n of ks i k ss at same adds before own =
    subst (λ zs. CtorsHaveLevels e.groups e.levels of zs) (sym (take_next ks i k at)) (λ j r to.
    elim (at_push (take i ks) k j r to) [
      | inl old ↦ λ p s here. sort_later types d e gs hs n of s adds (before j r old p s here)
      | inr new ↦ λ p s here. own p s
          (ap (λ zs. slice_get zs p) (same ∙ ap (λ (u : Ctor). u.fields) new.1) ∙ here)
    ])

pub ctors_none : (groups : List ℕ) (levels : List Level) (d : DataId) → CtorsHaveLevels groups levels d []
ctors_none groups levels d j k at = cc

pub ctors_whole : (groups : List ℕ) (levels : List Level) (d : DataId) (ks block : List Ctor) (i : ℕ) → ks ≡ block
    → length ks ≤ i → CtorsHaveLevels groups levels d (take i ks) → CtorsHaveLevels groups levels d block
ctors_whole groups levels d ks block i same end have =
    subst (λ zs. CtorsHaveLevels groups levels d zs) (take_all i ks end ∙ same) have

-- the room that is left, and how many came in with one turn more
pub levels_room : (types : TypeTable) (d e : NamedTrees) (gs hs : List Gate) (n k m most : ℕ)
    → AddsLevels types d gs e hs n → n + k ≤ m → length gs + m ≤ most → length hs + k ≤ most
levels_room types d e gs hs n k m most adds le room =
    let g = (length-Grows gs hs n adds.moves.grows).1 in omega arith

pub ctor_next : (ctors block : List Ctor) (i : ℕ) (k : Ctor) (ss : List Sort) → slice_get ctors i ≡ Some k
    → ss ≡ k.fields → ctors ≡ block
    → 32 + total ctor_level_gates (take i ctors) + total level_gates ss ≤ 32 + total ctor_level_gates block
ctor_next ctors block i k ss at same is =
    let e = ap (total level_gates) same in
    let b = ap (total ctor_level_gates) is in
    let w = total_next ctor_level_gates ctors i k at in omega arith

pub ctor_turn : (ctors : List Ctor) (i : ℕ) (k : Ctor) (ss : List Sort) → slice_get ctors i ≡ Some k → ss ≡ k.fields
    → 32 + total ctor_level_gates (take i ctors) + total level_gates ss
    ≤ 32 + total ctor_level_gates (take (i + 1) ctors)
ctor_turn ctors i k ss at same =
    let e = ap (total level_gates) same in
    let w = total_turn ctor_level_gates ctors i k at in omega arith
