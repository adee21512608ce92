-- Single outcomes: two outcomes that meet the promise of a public function of this crate are equal.
use mathlib.Core.Path.{◌≡◌, sym, ◌∙◌}
use mir.Syntax.{Dict}
use denote.RattleType.{RattleType}
use denote.Param.Laws.{Laws, IsCopy}
use Rattle.std.specs.declared.clone.Clone as Clone
use Rattle.octets.proofs.Single.{OneResult}
use Rattle.members.specs.declared.InBtf as InBtf
use Rattle.spans.specs.declared.BtfSize.{BtfSize}
use Rattle.spans.proofs.maps_size.Kinds as maps_size_kinds
use Rattle.spans.proofs.maps_size.Reads as maps_size
use Rattle.spans.proofs.attr_ids.Kinds as attr_ids_kinds
use Rattle.spans.proofs.attr_ids.Reads as attr_ids
use Rattle.spans.proofs.btf_size.Kinds as btf_size_kinds
use Rattle.spans.proofs.btf_size.Reads as btf_size

maps_size_single : OneResult maps_size_kinds.ps maps_size_kinds.r maps_size.Post
maps_size_single κs a z z' e e' p p' = p.0 ∙ sym p'.0

same_size : (z z' : BtfSize) → z.types ≡ z'.types → z.strings ≡ z'.strings → z ≡ z'
same_size z z' p q = λ i. record { types = p i; strings = q i }

btf_size_single : OneResult btf_size_kinds.ps btf_size_kinds.r btf_size.Post
btf_size_single κs a z z' e e' p p' = same_size z z' (p.0 ∙ sym p'.0) (p.1.0 ∙ sym p'.1.0)

-- at every type of value, whatever its types in BTF are
attr_ids_single : (T : RattleType) (l : Laws T) (c : IsCopy T) (g : InBtf.Ghosts T.Denot) (d : Dict) (h : Clone.Ghosts T.Denot) (f : Dict)
    → OneResult (attr_ids_kinds.ps T l c) (attr_ids_kinds.r T l c) (attr_ids.Post T l c g d h f)
attr_ids_single T l c g d h f κs a z z' e e' p p' = p.0 ∙ sym p'.0
