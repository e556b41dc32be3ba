-- Declarations of one kind are the same where their numbers are.
use Rattle.std.proofs.Common.{◌≡◌, ℕ}
use Rattle.pp_instances.specs.declared.member.Decl.TheVariants.{Function, Root}

pub one_function : (n m : ℕ) → Function n ≡ Function m → n ≡ m
one_function n m is = cc

pub one_root : (n m : ℕ) → Root n ≡ Root m → n ≡ m
one_root n m is = cc
