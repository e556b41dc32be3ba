-- What one more tree leaves.
use Rattle.std.proofs.Common.{◌⊎◌, ℕ, Bool, List, [], ◌∷◌, ◌++◌, length, refl, sym, subst, inl, inr}
use Rattle.pp_prog.specs.declared.sort.Sort.{Sort}
use Rattle.pp_prog.specs.declared.sort.Sort.TheVariants as sort
use Rattle.pp_prog.specs.declared.types.TypeTable.{TypeTable}
use Rattle.pp_gate.specs.declared.gate.Gate.{Gate}
use Rattle.pp_gate.specs.Circuit.{IsCircuit}
use Rattle.pp_gate.specs.Growth.{Grows}
use Rattle.pp_gate.specs.Laws.{AgreeUpTo}
use Rattle.pp_gate.proofs.Agreement.{Gives_old}
use Rattle.pp_gate.proofs.Growing.{IsOf_more}
use Rattle.pp_gate.proofs.Places.{at_left, at_next, at_push}
use Rattle.pp_domain.specs.declared.symbol.Symbol.{Symbol}
use Rattle.pp_domain.specs.declared.symbol.Symbol.TheVariants as symbol
use Rattle.pp_domain.specs.Moves.{Moves, SameLooks}
use Rattle.pp_domain.specs.Naming.{Naming}
use Rattle.pp_graph.specs.Reaches.{AreGroups}
use Rattle.pp_checks.specs.Tables.{field_table}
use Rattle.pp_named_trees.specs.declared.arena.Expansion.{Expansion}
use Rattle.pp_named_trees.specs.declared.arena.NamedTree.{NamedTree}
use Rattle.pp_named_trees.specs.declared.arena.NamedTrees.{NamedTrees}
use Rattle.pp_named_trees.specs.declared.arena.Node.{Node}
use Rattle.pp_named_trees.specs.Arena.{FieldFits, FieldsFit, IsKept, IsName, ExpansionFits}
use Rattle.pp_named_trees.specs.Kept.{with_node}
use Rattle.pp_named_trees.specs.Laws.{expansion_later, name_later, stands_agree}
use Rattle.pp_named_trees.specs.Meaning.{IsUntouched, NamedFits, NamedMatches, named_sense}

pub agree_back : (n : ℕ) (a b : ℕ → Bool) → AgreeUpTo n a b → AgreeUpTo n b a
agree_back n a b h = record { agree = λ v low high. sym (h.agree v low high) }

module _ (nodes : List Node) (x : Node) where
  pub kept_more : (t : NamedTree) → IsKept nodes t → IsKept (nodes ++ x ∷ []) t
  kept_more t is = record {
    number = is.number;
    node = is.node;
    at = at_left nodes (x ∷ []) is.number is.node is.at;
    of = is.of;
    name = is.name;
  }

  module _ (gs : List Gate) where
    field_kept : (s : Sort) (y : Symbol NamedTree) → FieldFits gs nodes s y → FieldFits gs (nodes ++ x ∷ []) s y
    field_kept sort.Int (symbol.Word w) fits = fits
    field_kept sort.Bool (symbol.Bit l) fits = fits
    field_kept (sort.Tree of) (symbol.Tree t) fits = (kept_more t fits.0, fits.1)
    field_kept sort.Int (symbol.Bit l) fits = absurd fits
    field_kept sort.Int (symbol.Tree t) fits = absurd fits
    field_kept sort.Bool (symbol.Word w) fits = absurd fits
    field_kept sort.Bool (symbol.Tree t) fits = absurd fits
    field_kept (sort.Tree of) (symbol.Word w) fits = absurd fits
    field_kept (sort.Tree of) (symbol.Bit l) fits = absurd fits

    fields_kept : (ss : List Sort) (ys : List (Symbol NamedTree)) → FieldsFit gs nodes ss ys
        → FieldsFit gs (nodes ++ x ∷ []) ss ys
    fields_kept [] [] fits = tt
    fields_kept (s ∷ ss) (y ∷ ys) fits = (field_kept s y fits.0, fields_kept ss ys fits.1)
    fields_kept [] (y ∷ ys) fits = absurd fits
    fields_kept (s ∷ ss) [] fits = absurd fits

    pub expansion_kept : (types : TypeTable) (y : Expansion) → ExpansionFits gs nodes types y
        → ExpansionFits gs (nodes ++ x ∷ []) types y
    expansion_kept types y fits = record {
      name = fits.name;
      datatype = fits.datatype;
      at = fits.at;
      many = fits.many;
      each = λ j z at. let own = fits.each j z at in record {
        ctor = own.ctor;
        lit = own.lit;
        entry = own.entry;
        at = own.at;
        fields = fields_kept own.entry.fields z.fields own.fields;
        blank = own.blank;
      };
      one = fits.one;
    }

module _ (types : TypeTable) (d : NamedTrees) (gs hs : List Gate) (k : ℕ) (x : Node)
    (fits : NamedFits types d gs) (grows : Grows gs hs k) (is : IsCircuit hs) (name : IsName hs x.name) where
  groups_kept : IsUntouched d ⊎ AreGroups (field_table types) d.groups
      → IsUntouched (with_node d x) ⊎ AreGroups (field_table types) d.groups
  groups_kept (inl u) = inl (record { groups = u.groups; expansions = u.expansions; levels = u.levels })
  groups_kept (inr g) = inr g

  pub fits_kept : NamedFits types (with_node d x) hs
  fits_kept = record {
    circuit = is;
    ok_of = IsOf_more gs hs k d.ok grows fits.ok_of;
    low = fits.low;
    groups = groups_kept fits.groups;
    nodes = λ i y at. elim (at_push d.nodes x i y at) [
      | inl old ↦ name_later gs hs k grows y.name (fits.nodes i y old)
      | inr new ↦ subst (λ (z : Node). IsName hs z.name) new.1 name
    ];
    expansions = λ i y at.
        expansion_kept d.nodes x hs types y (expansion_later gs hs k grows d.nodes types y (fits.expansions i y at));
    levels = λ i z at. name_later gs hs k grows z.word (fits.levels i z at);
    instances = λ a gives ok. let old = fits.instances a (Gives_old gs hs k grows a gives) ok in
        record { agree = old.agree; order = old.order };
  }

  pub Moves_kept : Moves named_sense types d gs (with_node d x) hs k
  Moves_kept = record {
    grows = grows;
    fits = fits_kept;
    nodes = λ t node. record {
      node = kept_more d.nodes x t node;
      data_of = refl;
      height = refl;
      expanded = λ h. h;
    };
    stands = λ n a b t v node agree. (
      λ s. stands_agree gs a b agree n d.nodes fits.nodes t v node s,
      λ s. stands_agree gs b a (agree_back (length gs) a b agree) n d.nodes fits.nodes t v node s,
    );
    back = λ n a good. record {
      gates = Gives_old gs hs k grows a good.gates;
      ok = good.ok;
      matches = record {
        short = good.matches.short;
        expansions = good.matches.expansions;
        levels = good.matches.levels;
      };
      admitted = good.admitted;
    };
  }

  pub node_kept : (h : ℕ) → IsKept (d.nodes ++ x ∷ []) (record { of = x.of; height = h; name = x.name })
  node_kept h = record {
    number = length d.nodes;
    node = x;
    at = at_next d.nodes [] x;
    of = refl;
    name = refl;
  }

  pub matches_kept : (a : ℕ → Bool) (n : Naming) → NamedMatches d a n → NamedMatches (with_node d x) a n
  matches_kept a n matches =
      record { short = matches.short; expansions = matches.expansions; levels = matches.levels }

  pub SameLooks_kept : SameLooks named_sense d (with_node d x)
  SameLooks_kept = record { looks = refl; compares = refl }
