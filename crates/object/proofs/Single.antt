-- Single outcomes: two outcomes that meet the promise of a public function of this crate are equal.
use mathlib.Core.Path.{◌≡◌, sym, ◌∙◌}
use contract.Lifetimes.{Lfts}
use borrow.Fn.Kinds.{Dens, res_t, ended_of}
use denote.Triple.Clauses.{AtExit}
use Rattle.octets.proofs.Single.{OneResult}
use Rattle.object.proofs.Program.none.Kinds as program_none_kinds
use Rattle.object.proofs.Program.none.Reads as program_none
use Rattle.object.proofs.BpfObject.new.Kinds as bpfobject_new_kinds
use Rattle.object.proofs.BpfObject.new.Reads as bpfobject_new
use Rattle.object.proofs.BpfObject.add_license.Kinds as bpfobject_add_license_kinds
use Rattle.object.proofs.BpfObject.add_license.Reads as bpfobject_add_license
use Rattle.object.proofs.BpfObject.add_map.Kinds as bpfobject_add_map_kinds
use Rattle.object.proofs.BpfObject.add_map.Reads as bpfobject_add_map
use Rattle.object.proofs.BpfObject.add_program.Kinds as bpfobject_add_program_kinds
use Rattle.object.proofs.BpfObject.add_program.Reads as bpfobject_add_program
use Rattle.object.proofs.BpfObject.maps.Kinds as bpfobject_maps_kinds
use Rattle.object.proofs.BpfObject.maps.Reads as bpfobject_maps
use Rattle.object.proofs.BpfObject.programs.Kinds as bpfobject_programs_kinds
use Rattle.object.proofs.BpfObject.programs.Reads as bpfobject_programs

program_none_single : OneResult program_none_kinds.ps program_none_kinds.r program_none.Post
program_none_single κs a z z' e e' p p' = p ∙ sym p'

bpfobject_new_single : OneResult bpfobject_new_kinds.ps bpfobject_new_kinds.r bpfobject_new.Post
bpfobject_new_single κs a z z' e e' p p' = p ∙ sym p'

bpfobject_add_license_single : OneResult bpfobject_add_license_kinds.ps bpfobject_add_license_kinds.r bpfobject_add_license.Post
bpfobject_add_license_single κs a z z' e e' p p' = p.0 ∙ sym p'.0

bpfobject_add_map_single : OneResult bpfobject_add_map_kinds.ps bpfobject_add_map_kinds.r bpfobject_add_map.Post
bpfobject_add_map_single κs a z z' e e' p p' = p.0 ∙ sym p'.0

bpfobject_add_program_single : OneResult bpfobject_add_program_kinds.ps bpfobject_add_program_kinds.r bpfobject_add_program.Post
bpfobject_add_program_single κs a z z' e e' p p' = p.0 ∙ sym p'.0

-- what is lent is a part of the object: it has the same maps, the same programs
bpfobject_maps_single :
    (κs : Lfts 1) (a : Dens κs bpfobject_maps_kinds.ps) (z z' : (res_t bpfobject_maps_kinds.r κs).Denot) (e e' : AtExit (ended_of 1 bpfobject_maps_kinds.ps bpfobject_maps_kinds.r) κs) → bpfobject_maps.Post κs a z e → bpfobject_maps.Post κs a z' e' → z.now ≡ z'.now
bpfobject_maps_single κs a z z' e e' p p' = p ∙ sym p'

bpfobject_programs_single :
    (κs : Lfts 1) (a : Dens κs bpfobject_programs_kinds.ps) (z z' : (res_t bpfobject_programs_kinds.r κs).Denot) (e e' : AtExit (ended_of 1 bpfobject_programs_kinds.ps bpfobject_programs_kinds.r) κs) → bpfobject_programs.Post κs a z e → bpfobject_programs.Post κs a z' e' → z.now ≡ z'.now
bpfobject_programs_single κs a z z' e e' p p' = p ∙ sym p'
