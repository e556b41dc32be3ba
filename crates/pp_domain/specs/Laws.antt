-- What holds of every domain, whatever is called. (own)
use Rattle.std.specs.Prelude.{◌≡◌, ℕ, ◌<◌, Bool, true, List, length}
use Rattle.pp_prog.specs.declared.types.TypeTable.{TypeTable}
use Rattle.pp_prog.specs.declared.value.Value.{Value}
use Rattle.pp_gate.specs.declared.gate.Gate.{Gate}
use Rattle.pp_gate.specs.Circuit.{IsCircuit, IsOf}
use Rattle.pp_gate.specs.Growth.{Grows}
use Rattle.pp_gate.specs.Laws.{AgreeUpTo}
use Rattle.pp_domain.specs.Naming.{Naming, IsNaming, NamesAll}
use Rattle.pp_domain.specs.Sense.{Sense, Good}

module _ {D T : Type 0} (m : Sense D T) where
  -- an admitted naming that names the values of the list by numbers that names can have
  pub record AdmittedFor (types : TypeTable) (d : D) (vs : List Value) : Type 0 where
    pub naming : Naming
    pub admitted : m.Admits types naming
    pub reaches : m.Reaches d naming
    pub names : NamesAll types naming vs

  pub record Lawful : Type 0 where
    -- what fits a domain is a circuit that has its `ok`, and any gates and inputs may be added to it
    pub circuit : (types : TypeTable) (d : D) (gs : List Gate) → m.Fits types d gs → IsCircuit gs
    pub ok_of : (types : TypeTable) (d : D) (gs : List Gate) → m.Fits types d gs → IsOf gs (m.ok d)
    pub grows : (types : TypeTable) (d : D) (gs hs : List Gate) (n : ℕ) → m.Fits types d gs → Grows gs hs n
        → IsCircuit hs
        → m.Fits types d hs
    -- what a tree stands for, and whether the assignment fits, depends on the variables of the circuit alone
    pub stands : (types : TypeTable) (d : D) (gs : List Gate) (n : Naming) (a b : ℕ → Bool) (t : T) (v : Value)
        → m.Fits types d gs → m.Node d t → AgreeUpTo (length gs) a b → m.Stands d a n t v → m.Stands d b n t v
    pub matches : (types : TypeTable) (d : D) (gs : List Gate) (n : Naming) (a b : ℕ → Bool)
        → m.Fits types d gs → AgreeUpTo (length gs) a b → m.Matches d a n → m.Matches d b n
    -- in an exact domain every assignment fits, and what a tree stands for is decided without the naming
    pub fitting : m.exact ≡ true → (d : D) (n : Naming) (a : ℕ → Bool) → m.Matches d a n
    pub decided : m.exact ≡ true → (d : D) (n k : Naming) (a : ℕ → Bool) (t : T) (v : Value)
        → m.Stands d a n t v → m.Stands d a k t v
    -- under a good assignment a tree stands for at most one value
    pub single : (types : TypeTable) (d : D) (gs : List Gate) (n : Naming) (a : ℕ → Bool) (t : T) (v w : Value)
        → m.Fits types d gs → Good m types d gs n a → m.Node d t → m.Stands d a n t v → m.Stands d a n t w → v ≡ w
    -- what a domain admits is a naming, and for each list of fewer values than its limit there is one that names them
    pub naming : (types : TypeTable) (n : Naming) → m.Admits types n → IsNaming types n
    pub names : (types : TypeTable) (d : D) (gs : List Gate) → m.Fits types d gs → (vs : List Value)
        → length vs < m.limit d → AdmittedFor types d vs
