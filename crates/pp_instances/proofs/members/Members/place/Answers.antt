use Rattle.std.proofs.Common.{◌≡◌, ◌≤◌, ℕ, Bool, true, false, List, Some, None, cond, ltb, length, not, refl, sym, ap}
use Rattle.std.proofs.Common.{◌∙◌, arith}
use Rattle.std.specs.List.{position, position_or_len}
use Rattle.std.proofs.lemmas.Bool.Decides.{nat_tests}
use Rattle.std.proofs.lemmas.List.Sums.{prefix_len-le-length}
use Rattle.pp_instances.specs.Same.{same}
use Rattle.pp_instances.specs.declared.member.Member.{Member}
use Rattle.pp_instances.proofs.members.Members.place.Goals as goal

end_of : (n m : ℕ) (b : Bool) → b ≡ ltb n m → n ≤ m → cond b (Some n) None ≡ None → m ≡ n
end_of n m true is le h = let no : Some n ≡ None = h in cc
end_of n m false is le h = let lt : ltb n m ≡ false = sym is in grind (arith, nat_tests)

absent_at_end : (test : Member → Bool) (ms : List Member) → position test ms ≡ None
    → length ms ≡ position_or_len test ms
absent_at_end test ms h =
    end_of (position_or_len test ms) (length ms) _ refl (prefix_len-le-length (λ x. not (test x)) ms) h

pub returns-in-None-clause-value : goal.returns-in-None-clause-value
returns-in-None-clause-value c =
    let keys = c.self.inside.set.keys in
    let absent : position (same c.args.member.now) keys ≡ None = sym c.in-None.ensures.index in
    c.len.ensures.len ∙ absent_at_end (same c.args.member.now) keys absent
    ∙ ap (position_or_len (same c.args.member.now)) c.self.view_is
