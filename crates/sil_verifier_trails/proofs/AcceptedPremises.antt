pub mod MadeAtStops
pub mod BasesOfTaken
pub mod EndsMayEnd
