pub mod AnswerLengths
pub mod PictureLengths
pub mod PostRecords
pub mod SceneRecords
pub mod StepRecords
pub mod IsolatedLemmas
pub mod RunLemmas
pub mod WorkedLemmas
