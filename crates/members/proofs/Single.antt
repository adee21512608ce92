-- Single outcomes: two outcomes that meet the promise of a public function of this crate are equal.
use mathlib.Core.Path.{sym, ◌∙◌}
use Rattle.octets.proofs.Single.{OneResult, OneExit}
use Rattle.members.proofs.TypeInBtf.add_types.Kinds as type_add_types_kinds
use Rattle.members.proofs.TypeInBtf.add_types.Reads as type_add_types
use Rattle.members.proofs.U32InBtf.add_types.Kinds as u32_add_types_kinds
use Rattle.members.proofs.U32InBtf.add_types.Reads as u32_add_types
use Rattle.members.proofs.add_btf_map_struct.Kinds as add_btf_map_struct_kinds
use Rattle.members.proofs.add_btf_map_struct.Reads as add_btf_map_struct

add_btf_map_struct_single : OneResult add_btf_map_struct_kinds.ps add_btf_map_struct_kinds.r add_btf_map_struct.Post
add_btf_map_struct_single κs a z z' e e' p p' = p.1 ∙ sym p'.1

add_btf_map_struct_exit : OneExit add_btf_map_struct_kinds.ps add_btf_map_struct_kinds.r add_btf_map_struct.Post (λ κs e. e.1.0.now)
add_btf_map_struct_exit κs a z z' e e' p p' = p.0 ∙ sym p'.0

type_add_types_single : OneResult type_add_types_kinds.ps type_add_types_kinds.r type_add_types.Post
type_add_types_single κs a z z' e e' p p' = p.1 ∙ sym p'.1

type_add_types_exit : OneExit type_add_types_kinds.ps type_add_types_kinds.r type_add_types.Post (λ κs e. e.1.1.0.now)
type_add_types_exit κs a z z' e e' p p' = p.0 ∙ sym p'.0

u32_add_types_single : OneResult u32_add_types_kinds.ps u32_add_types_kinds.r u32_add_types.Post
u32_add_types_single κs a z z' e e' p p' = p.1 ∙ sym p'.1

u32_add_types_exit : OneExit u32_add_types_kinds.ps u32_add_types_kinds.r u32_add_types.Post (λ κs e. e.1.1.0.now)
u32_add_types_exit κs a z z' e e' p p' = p.0 ∙ sym p'.0
