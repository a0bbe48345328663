pub mod MeantReport
pub mod ModelReport
pub mod MeantCut
pub mod MeantFaults
