pub mod RowLaws
pub mod ImageLaws
pub mod RowsPut
pub mod TallyLaws
pub mod SurveySteps
