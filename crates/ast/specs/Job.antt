-- What a job declares: a licence, maps and programs, each in its order. Names are raw: the bytes that the job gives.
use Rattle.std.specs.Prelude.{cond, List, [], ◌∷◌, ℕ, suc}
use Rattle.std.proofs.Math.Option.{Option, none, some}
use Rattle.octets.specs.Octets.{equal}
use Rattle.ast.specs.declared.MapType.{MapType}
use Rattle.ast.specs.declared.Attr.{Attr}
use Rattle.ast.specs.declared.«Type».{«Type» as MemberType}

pub record Map : Type 0 where
  pub name : List ℕ
  pub kind : MapType
  pub key : Attr MemberType
  pub value : Attr MemberType
  pub entries : Attr ℕ

-- a place in the code, the raw name of the map that belongs there, and the number of that map among the job's maps
pub record Relocation : Type 0 where
  pub offset : ℕ
  pub map : List ℕ
  pub number : ℕ

pub record Program : Type 0 where
  pub section : List ℕ
  pub symbol : List ℕ
  pub code : List ℕ
  pub relocations : List Relocation

pub record Job : Type 0 where
  pub licence : List ℕ
  pub maps : List Map
  pub programs : List Program

-- the number of the last map declared under a raw name, counted from `i`
abbrev pub last_from : ℕ → List ℕ → List Map → Option ℕ
last_from i name [] = none
last_from i name (m ∷ ms) =
    elim (last_from (suc i) name ms) [ some k ↦ some k | none ↦ cond (equal name m.name) (some i) none ]

-- two declarations are the same map exactly when their raw names are equal, and the last one counts
abbrev pub last_map : List ℕ → List Map → Option ℕ
last_map name ms = last_from 0 name ms
