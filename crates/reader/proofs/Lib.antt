pub mod PartsServed
