pub mod RowParts
pub mod SceneAlone
pub mod StepAlone
pub mod RunAlone
pub mod VeilLemmas
pub mod MaskVerdicts
pub mod MaskRows
pub mod MaskLemmas
