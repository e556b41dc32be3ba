-- Symbols of inputs that are blank where a literal is false.
use Rattle.std.proofs.Common.{◌≡◌, ℕ, ◌*◌, ◌+◌, ◌≤◌, ◌^◌, true, List, length, refl, sym, ap, ◌∙◌, subst}
use Rattle.pp_prog.specs.declared.id.DataId.{DataId}
use Rattle.pp_prog.specs.declared.sort.Sort.{Sort}
use Rattle.pp_prog.specs.declared.sort.Sort.TheVariants as sort
use Rattle.pp_prog.specs.Cone.{is_word}
use Rattle.pp_clause.specs.Literal.{Literal}
use Rattle.pp_gate.specs.declared.gate.Gate.{Gate}
use Rattle.pp_gate.specs.Growth.{Grows}
use Rattle.pp_domain.specs.declared.symbol.Symbol.{Symbol}
use Rattle.pp_domain.specs.declared.symbol.Symbol.TheVariants as symbol
use Rattle.pp_domain.specs.Plain.{IsMaskedPlain, IsMaskedWord, plain_gates}
use Rattle.pp_domain.specs.Short.{IsShort}
use Rattle.pp_named_trees.specs.declared.arena.NamedTree.{NamedTree}
use Rattle.pp_named_contents.specs.Contents.{IsGuarded, part_gates}

pub tree_guarded : (gs hs : List Gate) (low : ℕ) (lit : Literal) (of : DataId) (h : ℕ) (r : List Literal)
    → IsMaskedWord gs hs (IsShort low) lit r
    → IsGuarded gs hs low lit (sort.Tree of) (symbol.Tree (record { of = of; height = h; name = r }))
tree_guarded gs hs low lit of h r is = record {
  fits = (record { len = is.len; of = is.of }, refl);
  blank = λ a gives off. is.blank a gives off;
  chosen = λ a n v gives can.
      let pick = is.chosen a can.number gives can.short in record {
        next = pick.next;
        gives = pick.gives;
        keeps = pick.keeps;
        holds = λ on. ap (λ (k : ℕ). n of k) (pick.is on) ∙ can.is;
      };
}

pub plain_guarded : (gs hs : List Gate) (low : ℕ) (lit : Literal) (s : Sort) (x : Symbol NamedTree)
    → IsMaskedPlain gs hs lit s x → IsGuarded gs hs low lit s x
plain_guarded gs hs low lit sort.Int (symbol.Word w) is = record {
  fits = record { len = is.of.0; of = is.of.1 };
  blank = is.blank;
  chosen = λ a n v gives can.
      let pick = is.chosen a v gives can in
      record { next = pick.next; gives = pick.gives; keeps = pick.keeps; holds = pick.stands };
}
plain_guarded gs hs low lit sort.Bool (symbol.Bit l) is = record {
  fits = is.of;
  blank = is.blank;
  chosen = λ a n v gives can.
      let pick = is.chosen a v gives can in
      record { next = pick.next; gives = pick.gives; keeps = pick.keeps; holds = pick.stands };
}
plain_guarded gs hs low lit sort.Int (symbol.Bit l) is = absurd is.of
plain_guarded gs hs low lit sort.Int (symbol.Tree t) is = absurd is.of
plain_guarded gs hs low lit sort.Bool (symbol.Word w) is = absurd is.of
plain_guarded gs hs low lit sort.Bool (symbol.Tree t) is = absurd is.of
plain_guarded gs hs low lit (sort.Tree of) x is = absurd is.of

-- an input and a gate for each literal
part_gates_are : (s : Sort) → is_word s ≡ true → 2 * plain_gates s ≡ part_gates s
part_gates_are sort.Int plain = refl
part_gates_are sort.Bool plain = refl
part_gates_are (sort.Tree of) plain = absurd (cc)

pub plain_room : (gs : List Gate) (s : Sort) → is_word s ≡ true → length gs + part_gates s ≤ 2 ^ 30
    → length gs + 2 * plain_gates s ≤ 2 ^ 30
plain_room gs s plain room = subst (λ k. length gs + k ≤ 2 ^ 30) (sym (part_gates_are s plain)) room

pub plain_grows : (gs hs : List Gate) (s : Sort) → is_word s ≡ true → Grows gs hs (2 * plain_gates s)
    → Grows gs hs (part_gates s)
plain_grows gs hs s plain grows = subst (λ k. Grows gs hs k) (part_gates_are s plain) grows
