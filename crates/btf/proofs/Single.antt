-- Single outcomes: two outcomes that meet the promise of a public function of this crate are equal.
use mathlib.Core.Path.{sym, ◌∙◌}
use Rattle.octets.proofs.Single.{OneResult, OneExit}
use Rattle.btf.proofs.btf_info.Kinds as btf_info_kinds
use Rattle.btf.proofs.btf_info.Reads as btf_info
use Rattle.btf.proofs.map_type_num.Kinds as map_type_num_kinds
use Rattle.btf.proofs.map_type_num.Reads as map_type_num
use Rattle.btf.proofs.btf_map_size.Kinds as btf_map_size_kinds
use Rattle.btf.proofs.btf_map_size.Reads as btf_map_size
use Rattle.btf.proofs.BtfBuilder.new.Kinds as btf_builder_new_kinds
use Rattle.btf.proofs.BtfBuilder.new.Reads as btf_builder_new
use Rattle.btf.proofs.BtfBuilder.add_int.Kinds as add_int_kinds
use Rattle.btf.proofs.BtfBuilder.add_int.Reads as add_int
use Rattle.btf.proofs.BtfBuilder.add_ptr.Kinds as add_ptr_kinds
use Rattle.btf.proofs.BtfBuilder.add_ptr.Reads as add_ptr
use Rattle.btf.proofs.BtfBuilder.add_array.Kinds as add_array_kinds
use Rattle.btf.proofs.BtfBuilder.add_array.Reads as add_array
use Rattle.btf.proofs.BtfBuilder.add_struct.Kinds as add_struct_kinds
use Rattle.btf.proofs.BtfBuilder.add_struct.Reads as add_struct
use Rattle.btf.proofs.BtfBuilder.add_member.Kinds as add_member_kinds
use Rattle.btf.proofs.BtfBuilder.add_member.Reads as add_member
use Rattle.btf.proofs.BtfBuilder.add_var.Kinds as add_var_kinds
use Rattle.btf.proofs.BtfBuilder.add_var.Reads as add_var
use Rattle.btf.proofs.BtfBuilder.add_datasec.Kinds as add_datasec_kinds
use Rattle.btf.proofs.BtfBuilder.add_datasec.Reads as add_datasec
use Rattle.btf.proofs.BtfBuilder.add_entry.Kinds as add_entry_kinds
use Rattle.btf.proofs.BtfBuilder.add_entry.Reads as add_entry

btf_info_single : OneResult btf_info_kinds.ps btf_info_kinds.r btf_info.Post
btf_info_single κs a z z' e e' p p' = p ∙ sym p'

map_type_num_single : OneResult map_type_num_kinds.ps map_type_num_kinds.r map_type_num.Post
map_type_num_single κs a z z' e e' p p' = p ∙ sym p'

btf_map_size_single : OneResult btf_map_size_kinds.ps btf_map_size_kinds.r btf_map_size.Post
btf_map_size_single κs a z z' e e' p p' = p ∙ sym p'

btf_builder_new_single : OneResult btf_builder_new_kinds.ps btf_builder_new_kinds.r btf_builder_new.Post
btf_builder_new_single κs a z z' e e' p p' = p ∙ sym p'

-- a method leaves one string of bytes and answers one builder

add_int_single : OneResult add_int_kinds.ps add_int_kinds.r add_int.Post
add_int_single κs a z z' e e' p p' = p.1 ∙ sym p'.1

add_int_exit : OneExit add_int_kinds.ps add_int_kinds.r add_int.Post (λ κs e. e.1.0.now)
add_int_exit κs a z z' e e' p p' = p.0 ∙ sym p'.0

add_ptr_single : OneResult add_ptr_kinds.ps add_ptr_kinds.r add_ptr.Post
add_ptr_single κs a z z' e e' p p' = p.1 ∙ sym p'.1

add_ptr_exit : OneExit add_ptr_kinds.ps add_ptr_kinds.r add_ptr.Post (λ κs e. e.1.0.now)
add_ptr_exit κs a z z' e e' p p' = p.0 ∙ sym p'.0

add_array_single : OneResult add_array_kinds.ps add_array_kinds.r add_array.Post
add_array_single κs a z z' e e' p p' = p.1 ∙ sym p'.1

add_array_exit : OneExit add_array_kinds.ps add_array_kinds.r add_array.Post (λ κs e. e.1.0.now)
add_array_exit κs a z z' e e' p p' = p.0 ∙ sym p'.0

add_struct_single : OneResult add_struct_kinds.ps add_struct_kinds.r add_struct.Post
add_struct_single κs a z z' e e' p p' = p.1 ∙ sym p'.1

add_struct_exit : OneExit add_struct_kinds.ps add_struct_kinds.r add_struct.Post (λ κs e. e.1.0.now)
add_struct_exit κs a z z' e e' p p' = p.0 ∙ sym p'.0

add_member_single : OneResult add_member_kinds.ps add_member_kinds.r add_member.Post
add_member_single κs a z z' e e' p p' = p.1 ∙ sym p'.1

add_member_exit : OneExit add_member_kinds.ps add_member_kinds.r add_member.Post (λ κs e. e.1.0.now)
add_member_exit κs a z z' e e' p p' = p.0 ∙ sym p'.0

add_var_single : OneResult add_var_kinds.ps add_var_kinds.r add_var.Post
add_var_single κs a z z' e e' p p' = p.1 ∙ sym p'.1

add_var_exit : OneExit add_var_kinds.ps add_var_kinds.r add_var.Post (λ κs e. e.1.0.now)
add_var_exit κs a z z' e e' p p' = p.0 ∙ sym p'.0

add_datasec_single : OneResult add_datasec_kinds.ps add_datasec_kinds.r add_datasec.Post
add_datasec_single κs a z z' e e' p p' = p.1 ∙ sym p'.1

add_datasec_exit : OneExit add_datasec_kinds.ps add_datasec_kinds.r add_datasec.Post (λ κs e. e.1.0.now)
add_datasec_exit κs a z z' e e' p p' = p.0 ∙ sym p'.0

add_entry_single : OneResult add_entry_kinds.ps add_entry_kinds.r add_entry.Post
add_entry_single κs a z z' e e' p p' = p.1 ∙ sym p'.1

add_entry_exit : OneExit add_entry_kinds.ps add_entry_kinds.r add_entry.Post (λ κs e. e.1.0.now)
add_entry_exit κs a z z' e e' p p' = p.0 ∙ sym p'.0
