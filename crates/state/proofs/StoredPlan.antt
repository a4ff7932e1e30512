-- The stored plan: what Load's checks say of its bytes.
use Prim.Native.Nat.{ℕ, ◌<◌}
use mathlib.Core.Path.{◌≡◌, sym, ap, subst, ◌∙◌}
use mathlib.Core.Logic.{◌↔◌}
use mathlib.Core.Bool.{true}
use mathlib.Core.List.{List}
use native.Mathlib.Omega.{arith}
use lib.ListN.{get_or, take}
use lib.Seq.{get_or-take}
use Rattle.plan.specs.Lawful.{Bytes}
use Rattle.plan.specs.Plan.{Plan, plan_of, plan_bytes, plan_layout, plan_version, plan_nodes, plan_channels, size_by_head}
use Rattle.plan.specs.Check.{plan_refusal, plan_fits}
use Rattle.plan.proofs.BytesLaws.{bytes_take}
use Rattle.plan.proofs.ReadLaws.{version_byte, nodes_byte, channels_byte}
use Rattle.plan.proofs.PlanLaws.{plan_size_lem, head_size, plan-written}
use Rattle.plan.proofs.FitsLaws.{accepted_fits, fits_accepted}
use Rattle.state.proofs.LineLaws.{plan_sound}

module _ (s : List ℕ) where
  -- As many bytes as the plan's head asks for.
  abbrev pub stored_plan : List ℕ
  stored_plan = take (size_by_head s) s

  -- The head is in them.
  head_stored : (i : ℕ) → i < 5 → get_or stored_plan i 0 ≡ get_or s i 0
  head_stored i h = get_or-take (size_by_head s) s i 0 (omega (arith, head_size s, plan_size_lem (plan_version s) (plan_nodes s) (plan_channels s)))

  stored_version : plan_version stored_plan ≡ plan_version s
  stored_version = version_byte stored_plan ∙ head_stored 2 (omega arith) ∙ sym (version_byte s)

  stored_nodes : plan_nodes stored_plan ≡ plan_nodes s
  stored_nodes = nodes_byte stored_plan ∙ head_stored 3 (omega arith) ∙ sym (nodes_byte s)

  stored_channels : plan_channels stored_plan ≡ plan_channels s
  stored_channels = channels_byte stored_plan ∙ head_stored 4 (omega arith) ∙ sym (channels_byte s)

  -- They hold the whole plan.
  pub stored_of : plan_of stored_plan ≡ plan_of s
  unfolding plan_of size_by_head
  stored_of =
      (λ i. ((plan_layout (stored_version i) (stored_nodes i) (stored_channels i)).read stored_plan).1)
      ∙ ap (λ (x : List ℕ × Plan). x.1) ((plan_sound (plan_version s) (plan_nodes s) (plan_channels s)).front s)

  -- "the plan would be refused": it would not exactly where it fits and its bytes are its own.
  pub stored_accepted : Bytes s → (plan_refusal stored_plan ≡ 0) ↔ ((plan_fits (plan_of s) ≡ true) × (plan_bytes (plan_of s) ≡ stored_plan))
  stored_accepted h =
      let k = bytes_take (size_by_head s) s h in (
        λ z. (ap plan_fits (sym stored_of) ∙ accepted_fits stored_plan k z, ap plan_bytes (sym stored_of) ∙ plan-written stored_plan k z),
        λ r. subst (λ (t : List ℕ). plan_refusal t ≡ 0) r.1 (fits_accepted (plan_of s) r.0).0,
      )
