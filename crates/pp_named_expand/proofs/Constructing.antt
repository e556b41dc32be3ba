-- A new tree with a known constructor, from what came in for it.
use Rattle.std.proofs.Common.{◌≡◌, ℕ, ◌+◌, ◌≤◌, ◌<◌, ◌^◌, Bool, List, [], ◌∷◌, length, All}
use Rattle.std.proofs.Common.{refl, sym}
use Rattle.std.proofs.Common.{max, map, ◌++◌, ap, ◌∙◌, subst, arith}
use Rattle.pp_prog.specs.declared.id.CtorId.{CtorId}
use Rattle.pp_prog.specs.declared.id.DataId.{DataId}
use Rattle.pp_prog.specs.declared.types.TypeTable.{TypeTable}
use Rattle.pp_clause.specs.Literal.{Literal}
use Rattle.pp_gate.specs.declared.gate.Gate.{Gate}
use Rattle.pp_gate.specs.Circuit.{IsCircuit, IsOf}
use Rattle.pp_gate.specs.Growth.{Grows}
use Rattle.pp_gate.proofs.Agreement.{agree_along, lit_agree}
use Rattle.pp_gate.proofs.Growing.{length-Grows}
use Rattle.pp_graph.specs.Reaches.{AreGroups}
use Rattle.pp_checks.specs.Tables.{field_table}
use Rattle.pp_domain.specs.declared.symbol.Symbol.{Symbol}
use Rattle.pp_domain.specs.Moves.{Moves}
use Rattle.pp_domain.specs.Naming.{Naming}
use Rattle.pp_domain.specs.Short.{IsShort, IsShortWord}
use Rattle.pp_domain.specs.Sense.{Good}
use Rattle.pp_named_trees.specs.declared.arena.Alternative.{Alternative}
use Rattle.pp_named_trees.specs.declared.arena.NamedTree.{NamedTree}
use Rattle.pp_named_trees.specs.declared.arena.NamedTrees.{NamedTrees}
use Rattle.pp_named_trees.specs.Arena.{IsName}
use Rattle.pp_named_trees.specs.Kept.{with_node}
use Rattle.pp_named_trees.specs.Laws.{matches_agree}
use Rattle.pp_named_trees.specs.Meaning.{named_sense}
use Rattle.pp_named_trees.proofs.Parts.{parts_later}
use Rattle.pp_prog.specs.Values.{greatest}
use Rattle.pp_domain.specs.Symbols.{symbol_height}
use Rattle.pp_named_contents.specs.Kept.{FieldsKept, FieldsNamed, Keeps}
use Rattle.pp_named_contents.specs.Known.{AreFieldsOf, AreKnown}
use Rattle.pp_named_contents.proofs.Kept.{contents_named, keeps_good, keeps_kept, keeps_more, keeps_one}
use Rattle.pp_named_contents.proofs.Kept.{kept_new}
use Rattle.pp_named_instances.specs.Levels.{AddsLevels, DataHasLevels}
use Rattle.pp_named_expand.specs.Constructed.{IsKnownNew, NameHas}
use Rattle.pp_named_expand.specs.Touched.{IsTouched}
use Rattle.pp_named_expand.proofs.Preparing.{kept_moves, leveled_low}

-- a new word is no name of the old circuit
word_is_new : (gs fs hs : List Gate) (p low : ℕ) (ls ms : List Literal) → Grows gs fs p → IsShortWord fs hs low ls
    → IsName gs ms → ms ≡ ls → ⊥
word_is_new gs fs hs p n [] ms grows new old same = let e = new.len in absurd (omega (arith, e))
word_is_new gs fs hs p n (l ∷ ls) ms grows new old same =
    let high = new.fresh 0 l (omega arith) in
    let low = (subst (λ ks. All (IsOf gs) ks) same old.of) 0 l (omega arith) in
    let most = low.most in
    let g = (length-Grows gs fs p grows).0 in omega (arith, high, most, g)

-- what comes in for the tree, one after another
module _ (types : TypeTable) (d d1 d2 : NamedTrees) (gs fs : List Gate) (p : ℕ)
    (touched : IsTouched types d gs d1) (leveled : AddsLevels types d1 gs d2 fs p) (hs : List Gate)
    (grows : Grows fs hs 32) (is : IsCircuit hs) (name : List Literal) (word : IsShortWord fs hs d2.low name) where
  named : IsName hs name
  named = record { len = word.len; of = word.of }

  module _ (d3 d4 : NamedTrees) (of : DataId) (push : d3 ≡ with_node d2 (record { of = of; name = name }))
      (keeps : Keeps hs d3 d4) where
    both_keep : Keeps hs d2 d4
    both_keep = keeps_more hs d2 d3 d4 (keeps_one hs d2 d3 (record { of = of; name = name }) named push) keeps

    pub new_moves : (n : ℕ) → p + 32 ≤ n → Moves named_sense types d gs d4 hs n
    new_moves n le = kept_moves types d d1 d2 gs fs p touched leveled hs 32 grows is d4 both_keep n le

    module _ (c : CtorId) (fields : List (Symbol NamedTree)) (xs ys : List Alternative)
        (known : AreKnown types hs of c fields xs) (one : ys ≡ xs) (kept : FieldsKept d4.nodes ys)
        (are : AreGroups (field_table types) d1.groups) (levels : DataHasLevels types d2.groups d2.levels of) where
      name_has : (n : Naming) (a : ℕ → Bool) (k : ℕ) → Good named_sense types d gs n a → IsShort d.low k
          → NameHas types gs n a d4 hs name k
      name_has n a k good short =
          let x = leveled.extends n a (touched.good n a good) in
          let fits = leveled.moves.fits in
          let pick = word.chosen x.next x.good.gates k
          (subst (λ l. IsShort l k) (sym (leveled_low types d d1 d2 gs fs p touched leveled)) short) in record {
            extended = record {
              next = pick.assignment;
              agree = agree_along (length gs) (length fs) a x.next pick.assignment
                  (length-Grows gs fs p leveled.moves.grows).0 x.agree pick.keeps;
              good = keeps_good types hs d2 d4 n pick.assignment both_keep (record {
                gates = pick.gives;
                ok = sym (lit_agree (length fs) x.next pick.assignment d2.ok fits.ok_of pick.keeps) ∙ x.good.ok;
                matches = matches_agree types d2 fs n x.next pick.assignment fits pick.keeps x.good.matches;
                admitted = x.good.admitted;
              });
            };
            number = pick.number;
          }

      pub known_is : IsKnownNew types d gs d4 hs of c fields (record { of = of; name = name; alternatives = xs })
      known_is = record {
        data_of = refl;
        expansions = ap (λ (f : NamedTrees). f.expansions) both_keep.is
            ∙ ap (λ (f : NamedTrees). f.expansions) leveled.is ∙ ap (λ (f : NamedTrees). f.expansions) touched.is;
        groups = subst (λ ns. AreGroups (field_table types) ns) (sym (ap (λ (f : NamedTrees). f.groups) both_keep.is
            ∙ ap (λ (f : NamedTrees). f.groups) leveled.is)) are;
        levels = subst (λ (f : NamedTrees). DataHasLevels types f.groups f.levels of) (sym both_keep.is) levels;
        name = named;
        fresh = λ ms old e. word_is_new gs fs hs p d2.low name ms leveled.moves.grows word old e;
        node = λ h. keeps_kept hs d3 d4 (record { of = of; height = h; name = name }) keeps
            (kept_new d2 d3 (record { of = of; height = h; name = name }) push);
        known = known;
        kept = subst (λ zs. FieldsKept d4.nodes zs) one kept;
        chosen = name_has;
      }

-- ---- as the call reads

pub fields_later : (types : TypeTable) (gs hs : List Gate) (n : ℕ) (c : CtorId) (fields : List (Symbol NamedTree))
    → Grows gs hs n → AreFieldsOf types gs c fields → AreFieldsOf types hs c fields
fields_later types gs hs n c fields grows are =
    (are.0, are.1, parts_later gs hs n grows are.0.fields fields are.2)

pub known_named : (types : TypeTable) (hs : List Gate) (of : DataId) (c : CtorId) (fields : List (Symbol NamedTree))
    (xs ys : List Alternative) → AreKnown types hs of c fields xs → ys ≡ xs → FieldsNamed hs ys
known_named types hs of c fields xs ys known same =
    subst (λ zs. FieldsNamed hs zs) (sym same) (contents_named hs types of xs known.fits)

pub highest_push : (d : NamedTrees) (xs : List (Symbol NamedTree)) (x : Symbol NamedTree)
    → greatest (map (symbol_height named_sense d) (xs ++ x ∷ []))
    ≡ max (greatest (map (symbol_height named_sense d) xs)) (symbol_height named_sense d x)
highest_push d [] x = omega arith
highest_push d (y ∷ xs) x = let rest = highest_push d xs x in omega arith
