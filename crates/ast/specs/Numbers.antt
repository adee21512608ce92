-- Document 01's numbers of map types, and of key and value types.
use Rattle.std.specs.Prelude.{cond, ℕ, eqb}
use Rattle.std.proofs.Math.Option.{Option, none, some}
use Rattle.ast.specs.declared.«Type».{«Type» as MemberType}
use Rattle.ast.specs.declared.«Type».TheVariants.{U32, U64, I32, I64}
use Rattle.ast.specs.declared.MapType.{MapType}
use Rattle.ast.specs.declared.MapType.TheVariants.{Hash, Array, ProgArray, LruHash, Ringbuf}

-- the map type of a number; none for a number that is not listed
abbrev pub map_type_numbered : ℕ → Option MapType
map_type_numbered n =
    cond (eqb n 1) (some Hash)
    (cond (eqb n 2) (some Array)
    (cond (eqb n 3) (some ProgArray)
    (cond (eqb n 9) (some LruHash)
    (cond (eqb n 27) (some Ringbuf) none))))

-- the number of a map type (`map_type_num`)
abbrev pub map_type_number : MapType → ℕ
map_type_number Hash = 1
map_type_number Array = 2
map_type_number ProgArray = 3
map_type_number LruHash = 9
map_type_number Ringbuf = 27

-- the key or value type of a number; none for a number that is not listed
abbrev pub member_type_numbered : ℕ → Option MemberType
member_type_numbered n =
    cond (eqb n 1) (some U32)
    (cond (eqb n 2) (some U64)
    (cond (eqb n 3) (some I32)
    (cond (eqb n 4) (some I64) none)))
