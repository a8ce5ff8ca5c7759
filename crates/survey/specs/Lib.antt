pub mod Small
pub mod SurveyTold
