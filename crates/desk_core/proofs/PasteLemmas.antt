-- What deliveries leave of a scene's clipboard.
use Rattle.std.proofs.Common.{◌≡◌, ℕ, false, List, Option, Some, None, refl, sym, ◌∙◌, ap, subst}
use Rattle.std.specs.Prelude.{option_map, if◌then◌else◌}
use Rattle.desk_laws.specs.declared.input.GIn.TheVariants.{ClipGive}
use Rattle.desk_laws.specs.declared.row_id.RowId.{RowId}
use Rattle.desk_laws.specs.declared.setup.Pair.{Pair}
use Rattle.desk_laws.specs.Clipboard.{Content, wiped}
use Rattle.desk_laws.specs.Pairs.{denies}
use Rattle.desk_laws.specs.Scene.{Scene, Post, grant, pastes, unchanged, with_clip}
use Rattle.clipboard_gate.specs.Kept.{GateView, keeping}
use Rattle.guest_session.specs.SessionView.{SessionView}
use Rattle.desk_core.specs.Scenes.{HasRowsOf, Delivered}

-- nothing came of it
pub nothing-delivered : {O : Type 0} (takes : O → Post → O → Type 0) (out : O) (sessions : List SessionView) (limit : ℕ) (gate : GateView) (scene : Scene)
    → HasRowsOf sessions scene → gate ≡ keeping limit scene.clip → Delivered takes out out sessions limit gate (unchanged scene)
nothing-delivered takes out sessions limit gate scene has is = record { carried = record { rows = has; posts = refl }; clip = is }

-- where something is held, and the pair of guests isn't denied, it is given
pub paste-given : {O : Type 0} (takes : O → Post → O → Type 0) (out out' : O) (sessions' : List SessionView) (limit : ℕ) (old new : GateView) (id : RowId) (scene : Scene) → old ≡ keeping limit scene.clip
    → (denied : List Pair) (source : ℕ) → Some source ≡ option_map (λ (c : Content). c.source) old.clip.content → denies denied source id.guest ≡ false
    → ((content : Content) → scene.clip.content ≡ Some content → Delivered takes out out' sessions' limit new (grant id (ClipGive id.window) content.bytes (with_clip (wiped scene.clip) scene)))
    → Delivered takes out out' sessions' limit new (pastes denied id scene.clip.content scene)
paste-given takes out out' sessions' limit old new id scene is denied source found allowed given = by_content scene.clip.content refl
  where
    from_held : (c : Option Content) → scene.clip.content ≡ c → Some source ≡ option_map (λ (c : Content). c.source) c
    from_held c held = found ∙ ap (λ (g : GateView). option_map (λ (c : Content). c.source) g.clip.content) is ∙ ap (option_map (λ (c : Content). c.source)) held

    by_content : (c : Option Content) → scene.clip.content ≡ c → Delivered takes out out' sessions' limit new (pastes denied id c scene)
    by_content None held = let e : Some source ≡ None = from_held None held in absurd (cc)
    by_content (Some content) held =
        let e : Some source ≡ Some content.source = from_held (Some content) held in
        let same : source ≡ content.source = cc in
        let goes : denies denied content.source id.guest ≡ false = ap (λ s. denies denied s id.guest) (sym same) ∙ allowed in
        subst (λ b. Delivered takes out out' sessions' limit new (if b then unchanged scene else grant id (ClipGive id.window) content.bytes (with_clip (wiped scene.clip) scene))) (sym goes)
        (given content held)
