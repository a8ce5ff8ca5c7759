pub mod WordsPut
