pub mod FirstOther
