-- The constructors of a program are those of its typed units, at the number of their datatype.
use Rattle.std.proofs.Common.{◌≡◌, ◌≤◌, ◌∙◌, ℕ, suc, List, [], ◌∷◌, map, inl, inr, sym, ap}
use Rattle.std.proofs.Common.{arith}
use Rattle.std.specs.Prelude.{nat_eq}
use Rattle.pp_instances.specs.declared.member.Member.{Member}
use Rattle.pp_prog.specs.declared.types.Ctor.{Ctor}
use Rattle.pp_translation.specs.Numbers.{ctor_at, ctors_at, ctors_from, decl_number, sort_at}
use Rattle.pp_typed.specs.Sorted.{ctors_of}
use Rattle.pp_typed.specs.declared.typed.Typed.{Typed}
use Rattle.pp_typed.specs.declared.typed.TypedCtor.{TypedCtor}
use Rattle.pp_legible.proofs.Unlike.{Has, Unlike, has_either, has_filtered, has_mapped, unlike_append, unlike_filter}
use Rattle.pp_legible.proofs.Unlike.{unlike_map}

-- two constructors of one datatype and one name
abbrev pub AreLike : Ctor → Ctor → Type 0
AreLike a b = (a.of ≡ b.of) × (a.name ≡ b.name)

abbrev pub HaveOneName : TypedCtor → TypedCtor → Type 0
HaveOneName a b = a.name ≡ b.name

module _ (typed : Typed) (roots : List Member) where
  -- a constructor of the program is one of the typed units
  pub record IsTyped (d : ℕ) (a : Ctor) : Type 0 where
    pub from : TypedCtor
    pub among : Has typed.ctors from
    pub name : a.name ≡ from.name
    pub object : a.object ≡ from.object
    pub of : d ≤ a.of.0
    pub bare : from.fields ≡ [] → a.fields ≡ []

  at_typed : (d : ℕ) (m : Member) (a : Ctor) → Has (ctors_at typed roots d m) a → (a.of.0 ≡ d) × IsTyped d a
  at_typed d m a h =
      let k = has_mapped (ctor_at typed roots d m.args) (ctors_of typed.ctors (decl_number m.of)) h.place a h.here in
      let own = has_filtered (λ (c : TypedCtor). nat_eq c.root (decl_number m.of)) typed.ctors k.1.place k.0 k.1.here in
      let of : a.of.0 ≡ d = ap (λ (c : Ctor). c.of.0) (sym k.2) in (
        of,
        record {
          from = k.0;
          among = own;
          name = ap (λ (c : Ctor). c.name) (sym k.2);
          object = ap (λ (c : Ctor). c.object) (sym k.2);
          of = omega (arith, of);
          bare = λ none. ap (λ (c : Ctor). c.fields) (sym k.2) ∙ ap (map (sort_at roots m.args)) none;
        },
      )

  pub from_typed : (d : ℕ) (ms : List Member) (a : Ctor) → Has (ctors_from typed roots d ms) a → IsTyped d a
  from_typed d [] a h = let at = h.here in cc
  from_typed d (m ∷ ms) a h =
      elim (has_either (ctors_at typed roots d m) (ctors_from typed roots (suc d) ms) h.place a h.here) [
        | inl one ↦ (at_typed d m a one).1
        | inr one ↦ (
            let t = from_typed (suc d) ms a one in
            record {
              from = t.from;
              among = t.among;
              name = t.name;
              object = t.object;
              of = omega (arith, t.of);
              bare = t.bare;
            })
      ]

  module _ (names : Unlike HaveOneName typed.ctors) where
    at_unlike : (d : ℕ) (m : Member) → Unlike AreLike (ctors_at typed roots d m)
    at_unlike d m =
        unlike_map HaveOneName AreLike (ctor_at typed roots d m.args) (λ a b like. like.1)
        (ctors_of typed.ctors (decl_number m.of))
        (unlike_filter HaveOneName (λ (c : TypedCtor). nat_eq c.root (decl_number m.of)) typed.ctors names)

    pub ctors_unlike : (d : ℕ) (ms : List Member) → Unlike AreLike (ctors_from typed roots d ms)
    ctors_unlike d [] = tt
    ctors_unlike d (m ∷ ms) =
        unlike_append AreLike (ctors_at typed roots d m) (ctors_from typed roots (suc d) ms) (at_unlike d m)
        (ctors_unlike (suc d) ms)
        (λ a b one other like.
        let here = (at_typed d m a one).0 in
        let there = (from_typed (suc d) ms b other).of in
        let same : a.of.0 ≡ b.of.0 = ap (λ d. d.0) like.0 in omega (arith, here, there, same))
